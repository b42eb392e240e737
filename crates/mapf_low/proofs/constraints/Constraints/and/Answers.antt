use Rattle.std.proofs.Common.{◌≡◌, ◌↔◌, ◌⊎◌, ℕ, Result, MatchResult, Contains, insert, subst, sym, ◌∙◌, ap}
use Rattle.mapf_low.specs.declared.constraint.Constraint.{Constraint}
use Rattle.mapf_low.specs.Kept.{IsKept}
use Rattle.mapf_low.proofs.constraints.Adding.{Adds, adds}
use Rattle.mapf_low.proofs.constraints.Constraints.and.Goals as goal
use Rattle.mapf_low.proofs.constraints.Constraints.and.Goals.{in-Err+in_ok-insert, in_default}

-- the list that is searched is the old set
copied : (c : goal.Joined-binary_search) → c.deref.result.now ≡ c.self.inside.sorted.items
copied c = c.deref.ensures.value

-- what became of it, by what the search found
Became : (c : goal.Joined-binary_search) → Result ℕ ℕ → Type 0
Became c r =
    MatchResult r (λ _. c.match-binary_search.sorted.items ≡ c.deref.result.now)
    (λ i. c.match-binary_search.sorted.items ≡ insert c.deref.result.now i c.args.constraint)

became : (c : goal.Joined-binary_search) → Became c c.binary_search.result
unfolding Became
became c = elim c.match-binary_search.branch [
  | in-Err+in_ok-insert w ↦
      (let made : c.match-binary_search.sorted.items ≡ insert c.self.inside.sorted.items w.in-Err.place c.args.constraint = ap (λ v. v.items) w.sorted-is ∙ w.in_ok-insert.ensures.items in
      subst (Became c) (sym w.in-Err.is) (made ∙ ap (λ xs. insert xs w.in-Err.place c.args.constraint) (sym c.deref.ensures.value)))
  | in_default w ↦ subst (Became c) (sym w.in_default.is) (ap (λ v. v.items) w.sorted-is ∙ sym c.deref.ensures.value)
]

added : (c : goal.Joined-binary_search) → Adds c.deref.result.now c.args.constraint c.match-binary_search.sorted.items
unfolding Became
added c =
    adds c.deref.result.now c.args.constraint c.match-binary_search.sorted.items c.binary_search.result
    (subst IsKept (sym (copied c)) c.self.invariant)
    c.requires
    c.binary_search.ensures.bound
    c.binary_search.ensures.position
    (became c)

pub invariant_of-result : goal.invariant_of-result
invariant_of-result c = (added c).kept

pub returns : goal.returns
returns c = subst (λ xs. (x : Constraint) → Contains c.match-binary_search.sorted.items x ↔ ((x ≡ c.args.constraint) ⊎ Contains xs x)) (copied c ∙ c.self.view_is) (added c).members

-- What a worker's turns add to its looks at the flag, its tries to claim, and the looks that found the flag shut.
use Rattle.std.proofs.Common.{◌≡◌, ◌+◌, ◌≤◌, ℕ, List, Bool, true, cond, length, ap, ◌∙◌, arith, [], ◌∷◌}
use Rattle.mapf_board.specs.Board.{is_look, is_miss, is_shut}
use Rattle.mapf_board.specs.Views.{Seen, looking, noting, claiming}
use Rattle.mapf_board.specs.Weights.{total}
use Rattle.mapf_board.specs.declared.live.found.Found.{Found}
use Rattle.mapf_board.specs.declared.live.view.Note.{Note}
use Rattle.mapf_board.specs.declared.live.view.Note.TheVariants.{Slot, Flag}
use Rattle.mapf_board.proofs.Sums.{total-append}

module _ {J A : Type 0} where
  abbrev pub tries : Seen J A → ℕ
  tries v = length v.finished + total is_miss v.notes

  -- in so many turns, none of which found the flag shut
  abbrev pub AreCounted : ℕ → Seen J A → Seen J A → Type 0
  AreCounted n v w = (total is_look w.notes ≤ total is_look v.notes + n) × (tries w ≡ tries v + n) × (total is_shut w.notes ≡ total is_shut v.notes)

  -- a look adds one look
  pub looked : (v w : Seen J A) (is_open : Bool) → w ≡ looking v is_open
      → (total is_look w.notes ≡ total is_look v.notes + 1) × (tries w ≡ tries v) × (total is_shut w.notes ≡ total is_shut v.notes + cond is_open 0 1)
  looked v w is_open e =
      let note : List Note = Flag is_open ∷ [] in (
        omega (arith, ap (λ (x : Seen J A). total is_look x.notes) e, total-append is_look v.notes note),
        omega (arith, ap tries e, total-append is_miss v.notes note),
        omega (arith, ap (λ (x : Seen J A). total is_shut x.notes) e, total-append is_shut v.notes note),
      )

  -- a turn that finds nothing to claim
  pub with_miss : (n : ℕ) (u v w x : Seen J A) (slot : ℕ) (found : Found) → AreCounted n u v → w ≡ looking v true → x ≡ noting w slot found → AreCounted (n + 1) u x
  with_miss n u v w x slot found sofar look miss =
      let l = looked v w true look in
      let note : List Note = Slot slot found ∷ [] in (
        omega (arith, sofar.0, l.0, ap (λ (y : Seen J A). total is_look y.notes) miss, total-append is_look w.notes note),
        omega (arith, sofar.1, l.1, ap tries miss, total-append is_miss w.notes note),
        omega (arith, sofar.2, l.2, ap (λ (y : Seen J A). total is_shut y.notes) miss, total-append is_shut w.notes note),
      )

  -- a turn in which a job is claimed and worked off
  pub with_claim : (n : ℕ) (u v w x y : Seen J A) (slot : ℕ) (job : J) → AreCounted n u v → w ≡ looking v true → x ≡ claiming w slot job → tries y ≡ tries x + 1 → y.notes ≡ x.notes → AreCounted (n + 1) u y
  with_claim n u v w x y slot job sofar look claim tried same =
      let l = looked v w true look in
      let notes : y.notes ≡ w.notes = same ∙ ap (λ (z : Seen J A). z.notes) claim in (
        omega (arith, sofar.0, l.0, ap (total is_look) notes),
        omega (arith, sofar.1, l.1, tried, ap tries claim),
        omega (arith, sofar.2, l.2, ap (total is_shut) notes),
      )

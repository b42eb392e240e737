-- An own path within a bound, and within a higher one.
use Rattle.std.proofs.Common.{ℕ, ◌≤◌, List, ⊎_elim, arith}
use Rattle.mapf_grid.specs.Grid.{Grid}
use Rattle.mapf_grid.specs.Least.{Precedes}
use Rattle.mapf_plan.specs.Path.{cost}
use Rattle.mapf_low.specs.declared.constraint.Constraint.{Constraint}
use Rattle.mapf_low.specs.Constraints.{IsAllowed}
use Rattle.mapf_low.specs.OwnPath.{IsOwnPath, path_rank}

-- the own path by a bound is that by every higher one
pub own_by_bound : (g : Grid) (cs : List Constraint) (lower bound start goal : ℕ) (q : List ℕ) → lower ≤ bound → IsOwnPath g start goal lower cs q → IsOwnPath g start goal bound cs q
own_by_bound g cs lower bound start goal q l own = record { member = record { path = own.member.path; within = omega (arith, l, own.member.within); obeys = own.member.obeys }; least = least }
  where
    least : (y : List ℕ) → IsAllowed g start goal bound cs y → ¬ Precedes (path_rank y) (path_rank q)
    least y a h =
        let within : cost y ≤ lower = ⊎_elim (λ p. omega (arith, p, own.member.within)) (λ p. omega (arith, p.0, own.member.within)) h in
        own.least y (record { path = a.path; within = within; obeys = a.obeys }) h

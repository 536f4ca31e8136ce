-- When a heap may be called full: what is reachable, and what is asked for, take more than regions can surely hold. Each
-- region but one may end with fewer words than the largest object takes.
use Rattle.std.specs.Prelude.{ℕ, ◌+◌, ◌-◌, ◌*◌, nat_lt, Bool, sum, map, Option, Some, None}
use Rattle.bal_layout.specs.declared.geometry.Want.{Want}
use Rattle.bal_layout.specs.declared.name.Name.{Name}
use Rattle.bal_layout.specs.Shape.{Shape, largest_of}
use Rattle.bal_model.specs.Plain.{State, Object, object}
use Rattle.bal_model.specs.Sizes.{size_of, charge_of}
use Rattle.bal_model.specs.Walk.{reachable}

abbrev pub charge_of_object : Shape → Option Object → ℕ
charge_of_object s None = 0
charge_of_object s (Some o) = charge_of s (size_of s o)

abbrev pub charge_of_name : Shape → State → Name → ℕ
charge_of_name s graph x = charge_of_object s (object graph x)

-- the words of all that is reachable
abbrev pub reachable_charge : Shape → State → ℕ
reachable_charge s graph = sum (map (charge_of_name s graph) (reachable graph))

abbrev pub is_full_allowed : Shape → State → Want → Bool
is_full_allowed s graph w = nat_lt (s.regions * (s.words - largest_of s)) (reachable_charge s graph + charge_of s w)

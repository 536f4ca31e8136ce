-- Names of objects: equality, order and lists of them, as tests that compute.
use Rattle.std.specs.Prelude.{Bool, ◌||◌, ◌&&◌, ◌==◌, nat_lt, List}
use Rattle.std.specs.List.{list_any}
use Rattle.bal_layout.specs.declared.name.Name.{Name}

abbrev pub same_name : Name → Name → Bool
same_name a b = (a.thread == b.thread) && (a.ordinal == b.ordinal)

-- by thread, then by ordinal
abbrev pub is_before : Name → Name → Bool
is_before a b = nat_lt a.thread b.thread || ((a.thread == b.thread) && nat_lt a.ordinal b.ordinal)

abbrev pub is_among : Name → List Name → Bool
is_among x names = list_any (same_name x) names

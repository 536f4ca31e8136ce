-- Names in order.
use Rattle.std.specs.Prelude.{⊤, IsTrue, List, [], ◌∷◌}
use Rattle.bal_layout.specs.declared.name.Name.{Name}
use Rattle.bal_layout.specs.Names.{is_before}

-- names that strictly ascend, so that none stands twice
abbrev pub IsAscending : List Name → Type 0
IsAscending [] = ⊤
IsAscending (x ∷ []) = ⊤
IsAscending (x ∷ y ∷ names) = IsTrue (is_before x y) × IsAscending (y ∷ names)

-- How walks are searched: the names at their ends, in the order in which they are found.
use Rattle.std.specs.Prelude.{◌≡◌, ◌&&◌, not, ℕ, Bool, IsTrue, take, List, [], ◌∷◌, ◌++◌, if◌then◌else◌}
use Rattle.std.specs.List.{fold}
use Rattle.bal_layout.specs.declared.name.Name.{Name}
use Rattle.bal_layout.specs.Names.{is_among}
use Rattle.bal_model.specs.declared.plain.reach.Search.{Search}
use Rattle.bal_model.specs.Marks.{is_marked}
use Rattle.bal_model.specs.Walk.{EndsWalk, Ground}

-- a name that was come to is found, if it is inside and was not found before
abbrev pub with_found : (Name → Bool) → List Name → Name → List Name
with_found inside found x = if inside x && not (is_among x found) then found ++ x ∷ [] else found

-- and so is each of these names
abbrev pub with_all_found : (Name → Bool) → List Name → List Name → List Name
with_all_found inside found names = fold (with_found inside) found names

-- just those inside are unfound that were not found yet
abbrev pub IsSearch : Search → Type 0
IsSearch r = (x : Name) → is_marked r.unfound x ≡ (is_marked r.inside x && not (is_among x r.found.items))

-- What holds of those found between two steps of a search, the first few of which were looked at: just ends of walks were
-- found, all beginnings among them, and all that those refer to that were looked at. So nothing is missing once all were.
pub record IsClosing (g : Ground) (found : List Name) (looked_at : ℕ) : Type 0 where
  pub only : (x : Name) → IsTrue (is_among x found) → EndsWalk g x
  pub begun : (x : Name) → IsTrue (is_among x g.inside) → IsTrue (g.begins x) → IsTrue (is_among x found)
  pub closed : (x y : Name) → IsTrue (is_among x (take looked_at found)) → IsTrue (is_among y (g.refs x)) → IsTrue (is_among y g.inside)
      → IsTrue (is_among y found)

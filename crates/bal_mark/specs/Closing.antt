-- What holds between two steps of a marker: it has come from the roots, and the objects that left the queue were looked at.
use Rattle.std.specs.Prelude.{ℕ, IsTrue, List, take}
use Rattle.bal_layout.specs.References.{word_of}
use Rattle.bal_layout.specs.Regions.{is_in}
use Rattle.bal_table.specs.Marks.{Marked}
use Rattle.bal_words.specs.Paths.{EndsPath, words_in}
use Rattle.bal_words.specs.Things.{Things}

-- only what a path ends at is marked. What a root holds is marked, and so is what those objects refer to that were taken out
-- of the queue: nothing is missing once all were taken
pub record IsClosing (things : Things) (roots : List ℕ) (m : Marked) : Type 0 where
  pub only : (a : ℕ) → IsTrue (is_in a m.order) → EndsPath things roots a
  pub rooted : (a : ℕ) → IsTrue (is_in (word_of a) roots) → IsTrue (is_in a m.order)
  pub closed : (a b : ℕ) → IsTrue (is_in a (take m.taken m.order)) → IsTrue (is_in (word_of b) (words_in (things a)))
      → IsTrue (is_in b m.order)

-- That each reference can be followed.
use Rattle.std.specs.Prelude.{ℕ, All, List}
use Rattle.bal_words.specs.Paths.{words_in}
use Rattle.bal_words.specs.Shown.{Finds}
use Rattle.bal_words.specs.Things.{Things}

-- each reference of each object, and each root, is null or leads to an object
pub record AreFound (things : Things) (roots : List ℕ) : Type 0 where
  pub objects : (a : ℕ) → All (Finds things) (words_in (things a))
  pub held : All (Finds things) roots

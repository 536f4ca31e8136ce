-- The numbers that the options are given, as the reader of words collects them.
use Rattle.std.specs.Prelude.{◌≡◌, ℕ, ◌<◌, ◌≤◌, ◌*◌, ◌^◌, IsTrue, IfSome, List, flat_map, Option, Some, None}
use Rattle.std.specs.List.{AllByRecursion}
use Rattle.bal_layout.specs.Shape.{Shape, is_region_size}
use Rattle.bal_options.specs.CommandLine.{AreDistinct, Given, config_of, number_given, words_of}
use Rattle.bal_options.specs.Settings.{IsInRange}
use Rattle.bal_options.specs.declared.numbers.Numbers.{Numbers}
use Rattle.bal_options.specs.declared.setting.Setting.{Setting}
use Rattle.bal_options.specs.declared.setting.Setting.TheVariants as setting

-- none at all
abbrev pub no_numbers : Numbers
no_numbers = record {
  regions = None;
  words = None;
  eden = None;
  older = None;
  cards = None;
  workers = None;
  mark_every = None;
  mark_step = None;
  abort_after = None;
}

-- the number of an option
abbrev pub number_in : Numbers → Setting → Option ℕ
number_in numbers setting.Regions = numbers.regions
number_in numbers setting.Words = numbers.words
number_in numbers setting.Eden = numbers.eden
number_in numbers setting.Older = numbers.older
number_in numbers setting.Cards = numbers.cards
number_in numbers setting.Workers = numbers.workers
number_in numbers setting.MarkEvery = numbers.mark_every
number_in numbers setting.MarkStep = numbers.mark_step
number_in numbers setting.AbortAfter = numbers.abort_after

-- the numbers once an option is given one
abbrev pub with_number : Numbers → Setting → ℕ → Numbers
with_number numbers setting.Regions n = record numbers { regions = Some n }
with_number numbers setting.Words n = record numbers { words = Some n }
with_number numbers setting.Eden n = record numbers { eden = Some n }
with_number numbers setting.Older n = record numbers { older = Some n }
with_number numbers setting.Cards n = record numbers { cards = Some n }
with_number numbers setting.Workers n = record numbers { workers = Some n }
with_number numbers setting.MarkEvery n = record numbers { mark_every = Some n }
with_number numbers setting.MarkStep n = record numbers { mark_step = Some n }
with_number numbers setting.AbortAfter n = record numbers { abort_after = Some n }

-- the geometry by some numbers
abbrev pub shape_of : (Setting → Option ℕ) → Shape
shape_of given = (config_of given).geometry

-- some numbers give a configuration: each is in the range of its option, and the heap is one that there is
pub record AreAllowed (given : Setting → Option ℕ) : Type 0 where
  pub in_range : (s : Setting) → IfSome (given s) (IsInRange (shape_of given).regions s)
  pub power_of_two : IsTrue (is_region_size (shape_of given).words)
  pub words_in_all : (shape_of given).regions * (shape_of given).words ≤ 2 ^ 24

-- the words are options, none of them twice, that are given these numbers
pub record IsReadAs (words : List (List ℕ)) (given : Setting → Option ℕ) : Type 0 where
  pub givens : List Given
  pub spelled : words ≡ flat_map words_of givens
  pub once : AreDistinct givens
  pub small : AllByRecursion (λ g. g.number < 2 ^ 64) givens
  pub numbers : (s : Setting) → given s ≡ number_given givens s

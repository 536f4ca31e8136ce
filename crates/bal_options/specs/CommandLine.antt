-- The command line of a replay: the word `replay`, and after it options with their numbers, in any order.
use Rattle.std.specs.Prelude.{◌≡◌, ℕ, ◌≤◌, ◌*◌, ◌/◌, ◌^◌, min, Bool, if◌then◌else◌, List, [], ◌∷◌, ◌++◌, Option, Some, None, unwrap_or, IsTrue, ⊤, codes, flat_map}
use Rattle.std.specs.List.{AllByRecursion}
use Rattle.std.specs.Fmt.{decimal}
use Rattle.bal_layout.specs.Shape.{is_region_size}
use Rattle.bal_model.specs.declared.config.Config.{Config}
use Rattle.bal_options.specs.Settings.{IsInRange, is_same, name_of}
use Rattle.bal_options.specs.declared.setting.Setting.{Setting}
use Rattle.bal_options.specs.declared.setting.Setting.TheVariants as setting

-- one option as it is given: with a number, in one word or in two
pub record Given : Type 0 where
  pub setting : Setting
  pub number : ℕ
  pub in_one_word : Bool

-- its words: `--name=number`, or `--name` and `number`
abbrev pub words_of : Given → List (List ℕ)
words_of g =
    if g.in_one_word then (name_of g.setting ++ codes "=" ++ decimal g.number) ∷ []
    else name_of g.setting ∷ decimal g.number ∷ []

-- the number that an option is given, if it is given one
abbrev pub number_given : List Given → Setting → Option ℕ
number_given [] s = None
number_given (g ∷ gs) s = if is_same g.setting s then Some g.number else number_given gs s

-- no option is given twice: none is given a number again after it
abbrev pub AreDistinct : List Given → Type 0
AreDistinct [] = ⊤
AreDistinct (g ∷ gs) = (number_given gs g.setting ≡ None) × AreDistinct gs

-- how many regions a heap has, by the numbers that the options are given
abbrev pub regions_of : (Setting → Option ℕ) → ℕ
regions_of given = unwrap_or (given setting.Regions) 64

-- the configuration by these numbers: an option that is given none has its default
abbrev pub config_of : (Setting → Option ℕ) → Config
config_of given = record {
  geometry = record { regions = regions_of given; words = unwrap_or (given setting.Words) 1024 };
  eden = unwrap_or (given setting.Eden) (min 8 (regions_of given / 2));
  older = unwrap_or (given setting.Older) 2;
  cards = unwrap_or (given setting.Cards) 64;
  workers = unwrap_or (given setting.Workers) 4;
  mark_every = unwrap_or (given setting.MarkEvery) 4;
  mark_step = unwrap_or (given setting.MarkStep) 256;
  abort_after = given setting.AbortAfter;
}

-- the words are the command line that gives this configuration: the command, and options after it, none of them twice,
-- each with a number in its range; what they do not say has its default; and the heap is one that there is
pub record IsCommandLine (words : List (List ℕ)) (config : Config) : Type 0 where
  pub givens : List Given
  pub spelled : words ≡ codes "replay" ∷ flat_map words_of givens
  pub once : AreDistinct givens
  pub in_range : AllByRecursion (λ g. IsInRange config.geometry.regions g.setting g.number) givens
  pub gives : config ≡ config_of (number_given givens)
  pub power_of_two : IsTrue (is_region_size config.geometry.words)
  pub words_in_all : config.geometry.regions * config.geometry.words ≤ 2 ^ 24

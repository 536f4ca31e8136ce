-- A whole command line.
use Rattle.std.proofs.Common.{◌≡◌, ◌*◌, ◌≤◌, ◌<◌, ◌^◌, ◌∷◌, ◌++◌, ℕ, List, [], Option, None, Some, IfSome, refl, ap, sym, subst, ◌∙◌, arith}
use Rattle.std.specs.Prelude.{IsTrue, MatchOption, codes, flat_map}
use Rattle.std.specs.List.{AllByRecursion}
use Rattle.std.proofs.lemmas.List.{append-nil}
use Rattle.bal_layout.specs.Shape.{Shape, is_region_size}
use Rattle.bal_model.specs.Configs.{without_options}
use Rattle.bal_model.specs.declared.config.Config.{Config}
use Rattle.bal_options.specs.CommandLine.{Given, IsCommandLine, config_of, number_given, words_of}
use Rattle.bal_options.specs.Numbers.{AreAllowed, IsReadAs, shape_of}
use Rattle.bal_options.specs.Settings.{IsInRange, most_of}
use Rattle.bal_options.specs.declared.setting.Setting.{Setting}
use Rattle.bal_options.specs.declared.setting.Setting.TheVariants as setting
use Rattle.bal_options.proofs.ConfigFacts.{between}
use Rattle.bal_options.proofs.GivenFacts.{all-in_range, given-in_range}
use Rattle.bal_options.proofs.ReadFacts.{AreSmall, split-front, words-some}

-- the options of a command line are all in range, and so is each of them
pub each-in_range : (words : List (List ℕ)) (c : Config) (is : IsCommandLine words c) (s : Setting)
    → IfSome (number_given is.givens s) (IsInRange c.geometry.regions s)
each-in_range words c is s = given-in_range is.givens (IsInRange c.geometry.regions) is.in_range s

regions-small : (words : List (List ℕ)) (c : Config) → IsCommandLine words c → c.geometry.regions ≤ 2047
regions-small words c is =
    let few = between (number_given is.givens setting.Regions) 4 2047 64 0 2047 (each-in_range words c is setting.Regions) (omega arith) (omega arith) (omega arith) (omega arith) in
    omega (arith, few.1, ap (λ (d : Config). d.geometry.regions) is.gives)

most-small : (regions : ℕ) (s : Setting) → regions ≤ 2047 → most_of regions s < 2 ^ 64
most-small regions setting.Regions few = omega arith
most-small regions setting.Words few = omega arith
most-small regions setting.Eden few = omega arith
most-small regions setting.Older few = omega arith
most-small regions setting.Cards few = omega arith
most-small regions setting.Workers few = omega arith
most-small regions setting.MarkEvery few = omega arith
most-small regions setting.MarkStep few = omega arith
most-small regions setting.AbortAfter few = omega arith

small-in_range : (gs : List Given) (regions : ℕ) → regions ≤ 2047 → AllByRecursion (λ g. IsInRange regions g.setting g.number) gs → AreSmall gs
small-in_range [] regions few all = tt
small-in_range (g ∷ gs) regions few all =
    let most = most-small regions g.setting few in
    (omega (arith, all.0.1), small-in_range gs regions few all.1)

-- so each number fits 64 bits
pub line-small : (words : List (List ℕ)) (c : Config) (is : IsCommandLine words c) → AreSmall is.givens
line-small words c is = small-in_range is.givens c.geometry.regions (regions-small words c is) is.in_range

-- some words are those of one list of options
pub givens-injective : (gs hs : List Given) → AreSmall gs → AreSmall hs → flat_map words_of gs ≡ flat_map words_of hs → gs ≡ hs
givens-injective gs hs small little e =
    let (more, front, behind) = split-front hs gs [] little small (e ∙ sym (append-nil (flat_map words_of hs))) in
    by more front behind
  where
    by : (more : List Given) → gs ≡ hs ++ more → [] ≡ flat_map words_of more → gs ≡ hs
    by [] front behind = front ∙ append-nil hs
    by (g ∷ more) front behind = absurd (words-some g (flat_map words_of more) (sym behind))

-- at most one configuration is given by some words
pub one-config : (words : List (List ℕ)) (a b : Config) → IsCommandLine words a → IsCommandLine words b → a ≡ b
one-config words a b is are =
    let spelled : codes "replay" ∷ flat_map words_of is.givens ≡ codes "replay" ∷ flat_map words_of are.givens = sym is.spelled ∙ are.spelled in
    let same = givens-injective is.givens are.givens (line-small words a is) (line-small words b are) cc in
    is.gives ∙ ap (λ gs. config_of (number_given gs)) same ∙ sym are.gives

-- the numbers of a command line are allowed
line-allowed : (words : List (List ℕ)) (c : Config) (is : IsCommandLine words c) → AreAllowed (number_given is.givens)
line-allowed words c is =
    let shape : c.geometry ≡ shape_of (number_given is.givens) = ap (λ (d : Config). d.geometry) is.gives in
    let regions = ap (λ (d : Config). d.geometry.regions) is.gives in
    record {
      in_range = λ s. rw regions at (each-in_range words c is s);
      power_of_two = rw shape at is.power_of_two;
      words_in_all = rw shape at is.words_in_all;
    }

-- where the words after the command are options, they are a command line exactly if the numbers are allowed
pub line-refused : (command : List ℕ) (words : List (List ℕ)) (given : Setting → Option ℕ) (c : Config) → IsReadAs words given
    → (AreAllowed given → ⊥) → IsCommandLine (command ∷ words) c → ⊥
line-refused command words given c read none is =
    let spelled : words ≡ flat_map words_of is.givens = let e = is.spelled in cc in
    let same = givens-injective read.givens is.givens read.small (line-small (command ∷ words) c is) (sym read.spelled ∙ spelled) in
    let numbers : given ≡ number_given is.givens = λ i s. (read.numbers s ∙ ap (λ gs. number_given gs s) same) i in
    none (subst AreAllowed (sym numbers) (line-allowed (command ∷ words) c is))

pub line-taken : (command : List ℕ) (words : List (List ℕ)) (given : Setting → Option ℕ) (c : Config) → command ≡ codes "replay" → IsReadAs words given
    → AreAllowed given → c ≡ config_of given → IsCommandLine (command ∷ words) c
line-taken command words given c e read allowed gives =
    let numbers : given ≡ number_given read.givens = λ i s. read.numbers s i in
    let shape : shape_of given ≡ c.geometry = sym (ap (λ (d : Config). d.geometry) gives) in
    let allowed_too = subst AreAllowed numbers allowed in
    let regions : (shape_of (number_given read.givens)).regions ≡ c.geometry.regions = sym (ap (λ (d : Config). d.geometry.regions) (gives ∙ ap config_of numbers)) in
    record {
      givens = read.givens;
      spelled = ap (λ w. w ∷ words) e ∙ ap (λ ws. codes "replay" ∷ ws) read.spelled;
      once = read.once;
      in_range = all-in_range read.givens (IsInRange c.geometry.regions) read.once
          (λ s. subst (λ n. IfSome (number_given read.givens s) (IsInRange n s)) regions (allowed_too.in_range s));
      power_of_two = subst (λ (s : Shape). IsTrue (is_region_size s.words)) shape allowed.power_of_two;
      words_in_all = subst (λ (s : Shape). s.regions * s.words ≤ 2 ^ 24) shape allowed.words_in_all;
      gives = gives ∙ ap config_of numbers;
    }

-- words that are no options make none
pub line-unread : (command : List ℕ) (words : List (List ℕ)) (c : Config) → ((given : Setting → Option ℕ) → IsReadAs words given → ⊥)
    → IsCommandLine (command ∷ words) c → ⊥
line-unread command words c none is =
    let spelled : words ≡ flat_map words_of is.givens = let e = is.spelled in cc in
    none (number_given is.givens) (record { givens = is.givens; spelled = spelled; once = is.once; small = line-small (command ∷ words) c is; numbers = λ s. refl })

-- what the numbers give is what the words give
pub line-config : (line : List (List ℕ)) (command : List ℕ) (words : List (List ℕ)) (given : Setting → Option ℕ) → line ≡ command ∷ words
    → command ≡ codes "replay" → IsReadAs words given
    → (r : Option Config) → MatchOption r (AreAllowed given → ⊥) (λ c. AreAllowed given × (c ≡ config_of given))
    → MatchOption r ((c : Config) → IsCommandLine line c → ⊥) (λ c. IsCommandLine line c)
line-config line command words given whole e read None none = λ c is. line-refused command words given c read none (rw whole at is)
line-config line command words given whole e read (Some c) some = rw whole (line-taken command words given c e read some.0 some.1)

-- the command alone
pub defaults : IsCommandLine (codes "replay" ∷ []) without_options
defaults = record { givens = []; spelled = refl; once = tt; in_range = tt; power_of_two = refl; words_in_all = omega arith; gives = refl }

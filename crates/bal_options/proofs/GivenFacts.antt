-- What some options are given, one after the other.
use Rattle.std.proofs.Common.{◌≡◌, ◌∷◌, ◌++◌, Bool, true, false, ℕ, List, [], Option, None, Some, IfSome, refl, sym, ◌∙◌}
use Rattle.std.specs.Prelude.{if◌then◌else◌}
use Rattle.std.specs.Option.{option_or}
use Rattle.std.specs.List.{AllByRecursion}
use Rattle.bal_options.specs.CommandLine.{AreDistinct, Given, number_given}
use Rattle.bal_options.specs.Numbers.{no_numbers, number_in, with_number}
use Rattle.bal_options.specs.Settings.{is_same}
use Rattle.bal_options.specs.declared.numbers.Numbers.{Numbers}
use Rattle.bal_options.specs.declared.setting.Setting.{Setting}
use Rattle.bal_options.specs.declared.setting.Setting.TheVariants as setting

-- Options that are the same.

pub same-refl : (s : Setting) → is_same s s ≡ true
same-refl setting.Regions = refl
same-refl s = refl

pub same-true : (s t : Setting) → is_same s t ≡ true → s ≡ t
same-true setting.Regions setting.Regions e = refl
same-true setting.Words setting.Words e = refl
same-true setting.Eden setting.Eden e = refl
same-true setting.Older setting.Older e = refl
same-true setting.Cards setting.Cards e = refl
same-true setting.Workers setting.Workers e = refl
same-true setting.MarkEvery setting.MarkEvery e = refl
same-true setting.MarkStep setting.MarkStep e = refl
same-true setting.AbortAfter setting.AbortAfter e = refl
same-true s t e = let clash : false ≡ true = e in cc

same-sym : (s t : Setting) → is_same s t ≡ is_same t s
same-sym setting.Regions setting.Regions = refl
same-sym setting.Words setting.Words = refl
same-sym setting.Eden setting.Eden = refl
same-sym setting.Older setting.Older = refl
same-sym setting.Cards setting.Cards = refl
same-sym setting.Workers setting.Workers = refl
same-sym setting.MarkEvery setting.MarkEvery = refl
same-sym setting.MarkStep setting.MarkStep = refl
same-sym setting.AbortAfter setting.AbortAfter = refl
same-sym s t = refl

-- The numbers as they are collected.

pub none-in : (s : Setting) → number_in no_numbers s ≡ None
none-in setting.Regions = refl
none-in s = refl

number_in-with : (numbers : Numbers) (t : Setting) (n : ℕ) (s : Setting)
    → number_in (with_number numbers t n) s ≡ (if is_same t s then Some n else number_in numbers s)
number_in-with numbers setting.Regions n setting.Regions = refl
number_in-with numbers setting.Words n setting.Words = refl
number_in-with numbers setting.Eden n setting.Eden = refl
number_in-with numbers setting.Older n setting.Older = refl
number_in-with numbers setting.Cards n setting.Cards = refl
number_in-with numbers setting.Workers n setting.Workers = refl
number_in-with numbers setting.MarkEvery n setting.MarkEvery = refl
number_in-with numbers setting.MarkStep n setting.MarkStep = refl
number_in-with numbers setting.AbortAfter n setting.AbortAfter = refl
number_in-with numbers t n s = refl

-- with one option more after them, the first number that an option is given stays
number_given-more : (gs : List Given) (g : Given) (s : Setting)
    → number_given (gs ++ g ∷ []) s ≡ option_or (number_given gs s) (if is_same g.setting s then Some g.number else None)
number_given-more [] g s = refl
number_given-more (h ∷ gs) g s = by (is_same h.setting s) (number_given-more gs g s)
  where
    by : (t : Bool) → number_given (gs ++ g ∷ []) s ≡ option_or (number_given gs s) (if is_same g.setting s then Some g.number else None)
        → (if t then Some h.number else number_given (gs ++ g ∷ []) s)
        ≡ option_or (if t then Some h.number else number_given gs s) (if is_same g.setting s then Some g.number else None)
    by true e = refl
    by false e = e

or_none : (o : Option ℕ) → o ≡ option_or o None
or_none None = refl
or_none (Some n) = refl

-- so the collected numbers stay those of the options
pub numbers-more : (numbers : Numbers) (gs : List Given) (g : Given) → ((s : Setting) → number_in numbers s ≡ number_given gs s)
    → number_in numbers g.setting ≡ None
    → (s : Setting) → number_in (with_number numbers g.setting g.number) s ≡ number_given (gs ++ g ∷ []) s
numbers-more numbers gs g all none s =
    number_in-with numbers g.setting g.number s ∙ by (is_same g.setting s) refl ∙ sym (number_given-more gs g s)
  where
    by : (t : Bool) → is_same g.setting s ≡ t
        → (if t then Some g.number else number_in numbers s) ≡ option_or (number_given gs s) (if t then Some g.number else None)
    by true e =
        let free : number_given gs s ≡ None = rw (sym (same-true g.setting s e)) (sym (all g.setting) ∙ none) in
        rw free
    by false e = all s ∙ or_none (number_given gs s)

-- and no option is given twice yet
pub distinct-more : (gs : List Given) (g : Given) → AreDistinct gs → number_given gs g.setting ≡ None → AreDistinct (gs ++ g ∷ [])
distinct-more [] g once none = (refl, tt)
distinct-more (h ∷ gs) g once none = by (distinct-more gs g once.1) (is_same h.setting g.setting) refl none
  where
    by : (number_given gs g.setting ≡ None → AreDistinct (gs ++ g ∷ [])) → (t : Bool) → is_same h.setting g.setting ≡ t → (if t then Some h.number else number_given gs g.setting) ≡ None
        → (number_given (gs ++ g ∷ []) h.setting ≡ None) × AreDistinct (gs ++ g ∷ [])
    by more true e clash = cc
    by more false e free =
        let other : is_same g.setting h.setting ≡ false = same-sym g.setting h.setting ∙ e in
        let first : number_given (gs ++ g ∷ []) h.setting ≡ None = number_given-more gs g h.setting ∙ rw (once.0, other) in
        (first, more free)

-- an option is given the number of each of its places, if it has one place
pub given-there : (gs more : List Given) (g : Given) → number_given (gs ++ g ∷ more) g.setting ≡ None → ⊥
given-there [] more g none = let some : Some g.number ≡ None = rw (same-refl g.setting) at none in cc
given-there (h ∷ gs) more g none = by (given-there gs more g) (is_same h.setting g.setting) none
  where
    by : (number_given (gs ++ g ∷ more) g.setting ≡ None → ⊥) → (t : Bool) → (if t then Some h.number else number_given (gs ++ g ∷ more) g.setting) ≡ None → ⊥
    by later true e = cc
    by later false e = later e

-- one that is given a number already is not given another
pub distinct-clash : (gs more : List Given) (g : Given) → (number_given gs g.setting ≡ None → ⊥) → AreDistinct (gs ++ g ∷ more) → ⊥
distinct-clash [] more g some once = some refl
distinct-clash (h ∷ gs) more g some once = by (λ later. distinct-clash gs more g later once.1) (is_same h.setting g.setting) refl some
  where
    by : ((number_given gs g.setting ≡ None → ⊥) → ⊥) → (t : Bool) → is_same h.setting g.setting ≡ t
        → ((if t then Some h.number else number_given gs g.setting) ≡ None → ⊥) → ⊥
    by clash true e first = given-there gs more g (rw (same-true h.setting g.setting e) at once.0)
    by clash false e later = clash later

-- each option that is given a number is in range, where all numbers given are
pub given-in_range : (gs : List Given) (P : Setting → ℕ → Type 0) → AllByRecursion (λ g. P g.setting g.number) gs
    → (s : Setting) → IfSome (number_given gs s) (P s)
given-in_range [] P all s = tt
given-in_range (g ∷ gs) P all s = by (given-in_range gs P all.1 s) (is_same g.setting s) refl
  where
    by : IfSome (number_given gs s) (P s) → (t : Bool) → is_same g.setting s ≡ t → IfSome (if t then Some g.number else number_given gs s) (P s)
    by later true e = rw (same-true g.setting s e) at all.0
    by later false e = later

-- and all are, where each option has one number at most
pub all-in_range : (gs : List Given) (P : Setting → ℕ → Type 0) → AreDistinct gs → ((s : Setting) → IfSome (number_given gs s) (P s))
    → AllByRecursion (λ g. P g.setting g.number) gs
all-in_range [] P once each = tt
all-in_range (g ∷ gs) P once each =
    (first, all-in_range gs P once.1 (λ s. by s (is_same g.setting s) refl (each s)))
  where
    first : P g.setting g.number
    first = rw (same-refl g.setting) at (each g.setting)

    by : (s : Setting) (t : Bool) → is_same g.setting s ≡ t → IfSome (if t then Some g.number else number_given gs s) (P s)
        → IfSome (number_given gs s) (P s)
    by s true e is =
        let none : number_given gs s ≡ None = rw (same-true g.setting s e) at once.0 in
        rw none tt
    by s false e is = is

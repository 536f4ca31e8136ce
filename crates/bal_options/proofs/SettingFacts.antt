-- Facts of the options.
use Rattle.std.proofs.Common.{◌≡◌, ◌<◌, ◌∷◌, ℕ, List, [], Option, Some, get_or, refl, ap, sym, ◌∙◌, arith}
use Rattle.std.specs.Prelude.{bytes_eq, find}
use Rattle.bal_options.specs.Settings.{name_of}
use Rattle.bal_options.specs.declared.setting.Setting.{Setting}
use Rattle.bal_options.specs.declared.setting.Setting.TheVariants as setting

abbrev pub all_settings : List Setting
all_settings =
    setting.Regions ∷ setting.Words ∷ setting.Eden ∷ setting.Older ∷ setting.Cards ∷ setting.Workers ∷ setting.MarkEvery ∷ setting.MarkStep
    ∷ setting.AbortAfter ∷ []

-- what holds of each of them, one after the other, holds of any
pub of_each : (P : Setting → Type 0) → ((k : ℕ) (d : Setting) → k < 9 → P (get_or all_settings k d)) → (s : Setting) → P s
of_each P each setting.Regions = each 0 setting.Regions (omega arith)
of_each P each setting.Words = each 1 setting.Regions (omega arith)
of_each P each setting.Eden = each 2 setting.Regions (omega arith)
of_each P each setting.Older = each 3 setting.Regions (omega arith)
of_each P each setting.Cards = each 4 setting.Regions (omega arith)
of_each P each setting.Workers = each 5 setting.Regions (omega arith)
of_each P each setting.MarkEvery = each 6 setting.Regions (omega arith)
of_each P each setting.MarkStep = each 7 setting.Regions (omega arith)
of_each P each setting.AbortAfter = each 8 setting.Regions (omega arith)

-- the option of a name
abbrev setting_at : List ℕ → Option Setting
setting_at name = find (λ s. bytes_eq (name_of s) name) all_settings

setting_at-name : (s : Setting) → setting_at (name_of s) ≡ Some s
setting_at-name setting.Regions = refl
setting_at-name setting.Words = refl
setting_at-name setting.Eden = refl
setting_at-name setting.Older = refl
setting_at-name setting.Cards = refl
setting_at-name setting.Workers = refl
setting_at-name setting.MarkEvery = refl
setting_at-name setting.MarkStep = refl
setting_at-name setting.AbortAfter = refl

pub name_injective : (s t : Setting) → name_of s ≡ name_of t → s ≡ t
name_injective s t e =
    let same : Some s ≡ Some t = sym (setting_at-name s) ∙ ap setting_at e ∙ setting_at-name t in
    cc

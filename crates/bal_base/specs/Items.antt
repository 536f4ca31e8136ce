-- What a contract sees of a list with room reserved.
use Rattle.std.specs.Prelude.{ℕ, List, length, refl}
use Rattle.std.specs.List.{refill}
use Rattle.std.specs.Coded.{Coded, code_by, coded×, coded_list, coded_ℕ}

-- the items in order, and how many more fit before memory is taken
pub record Seq (T : Type 0) : Type 0 where
  pub list : List T
  pub spare : ℕ

-- it is stored as the pair of its parts
abbrev pub seq_code : {T : Type 0} → Coded T → Coded (Seq T)
seq_code {T} code =
    code_by (List T × ℕ) (coded× (coded_list code) coded_ℕ) (λ s. (s.list, s.spare)) (λ p. record { list = p.0; spare = p.1 }) (λ _. refl)

-- s after a write of its items as a slice, which keeps the length and the room
abbrev pub with_list : {T : Type 0} → Seq T → List T → Seq T
with_list s items = record s { list = refill (length s.list) s.list items }

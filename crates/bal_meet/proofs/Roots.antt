-- The registers and globals of the plain state in one list, and that a state keeps its form.
use Rattle.std.proofs.Common.{◌≡◌, ◌<◌, ◌-◌, ◌*◌, ℕ, zero, suc, List, [], ◌∷◌, ◌++◌, length, get_or, set, Option, None, refl, ap, ◌∙◌, arith}
use Rattle.std.specs.List.{flat_map}
use Rattle.std.proofs.lemmas.List.{length-set, get_or_append_left, get_or-append_right, set-append_left, set-append_right}
use Rattle.bal_layout.specs.declared.name.Name.{Name}
use Rattle.bal_meet.specs.Decode.{IsState, roots_of}
use Rattle.bal_meet.proofs.Lists.{each-at, each-replicate, each-set, get-piece, length-pieces, set-piece}
use Rattle.bal_meet.proofs.Objects.{nobody}
use Rattle.bal_model.specs.Plain.{Mutator, State, global, idle, mutator, register, start, with_global, with_mutator}
use Rattle.bal_roots.specs.Roots.{global_place, register_count, register_place}

-- what a mutator's registers hold, and what those of all do
abbrev registers_of : Mutator → List (Option Name)
registers_of m = m.registers

abbrev registers : State → List (Option Name)
registers s = flat_map registers_of s.mutators

-- 32 mutators with 32 registers
length-registers : (s : State) → IsState s → length (registers s) ≡ register_count
length-registers s h = length-pieces registers_of 32 s.mutators h.registers ∙ ap (λ n. 32 * n) h.mutators

-- a mutator has 32 registers
pub registers-many : (s : State) (t : ℕ) → IsState s → t < 32 → length (mutator s t).registers ≡ 32
registers-many s t h below =
    let many : length s.mutators ≡ 32 = h.mutators in
    each-at (λ (m : Mutator). length m.registers ≡ 32) s.mutators t nobody h.registers (omega arith)

-- Registers and globals are read.

-- a register stands at its place
pub register-read : (s : State) (t r : ℕ) → IsState s → t < 32 → r < 32 → get_or (roots_of s) (register_place t r) None ≡ register s t r
register-read s t r h thread number =
    let many : length s.mutators ≡ 32 = h.mutators in
    let long : length (registers s) ≡ register_count = length-registers s h in
    get_or_append_left (registers s) s.globals None (register_place t r) (omega arith)
    ∙ get-piece registers_of 32 s.mutators t r (register_place t r) nobody None h.registers (omega arith) number refl

-- and so does a global
pub global-read : (s : State) (g : ℕ) → IsState s → get_or (roots_of s) (global_place g) None ≡ global s g
global-read s g h =
    let same : global_place g - register_count ≡ g = omega arith in
    get_or-append_right (registers s) s.globals register_count (global_place g) None (length-registers s h) (omega arith) ∙ ap (λ i. get_or s.globals i None) same

-- Registers and globals are written.

-- a mutator with another register has another root at that place
pub register-written : (s : State) (t r : ℕ) (content : Option Name) (m : Mutator) → IsState s → t < 32 → r < 32
    → m.registers ≡ set (mutator s t).registers r content
    → set (roots_of s) (register_place t r) content ≡ roots_of (with_mutator s t m)
register-written s t r content m h thread number new =
    let many : length s.mutators ≡ 32 = h.mutators in
    let long : length (registers s) ≡ register_count = length-registers s h in
    set-append_left (registers s) s.globals (register_place t r) content (omega arith)
    ∙ ap (λ l. l ++ s.globals) (set-piece registers_of 32 s.mutators t r (register_place t r) nobody m content h.registers (omega arith) number refl new)

-- another global is another root at its place
pub global-written : (s : State) (g : ℕ) (content : Option Name) → IsState s → set (roots_of s) (global_place g) content ≡ roots_of (with_global s g content)
global-written s g content h =
    let same : global_place g - register_count ≡ g = omega arith in
    set-append_right (registers s) s.globals register_count (global_place g) content (length-registers s h) (omega arith) ∙ ap (λ i. registers s ++ set s.globals i content) same

-- a mutator that keeps its registers leaves all roots
pub roots-kept : (s : State) (t : ℕ) (m : Mutator) → m.registers ≡ (mutator s t).registers → roots_of (with_mutator s t m) ≡ roots_of s
roots-kept s t m same = ap (λ l. l ++ s.globals) (by s.mutators t same)
  where
    by : (ms : List Mutator) (t : ℕ) → m.registers ≡ (get_or ms t nobody).registers → flat_map registers_of (set ms t m) ≡ flat_map registers_of ms
    by [] t same = refl
    by (x ∷ ms) zero same = ap (λ l. l ++ flat_map registers_of ms) same
    by (x ∷ ms) (suc t) same = ap (λ l. x.registers ++ l) (by ms t same)

-- A state keeps its form.

-- where a mutator is replaced by one with as many registers
pub IsState-mutator : (s : State) (t : ℕ) (m : Mutator) → IsState s → length m.registers ≡ 32 → IsState (with_mutator s t m)
IsState-mutator s t m h many = record {
  mutators = length-set s.mutators t m ∙ h.mutators;
  registers = each-set (λ (m : Mutator). length m.registers ≡ 32) s.mutators t m many h.registers;
  globals = h.globals;
}

-- where a global is written
pub IsState-global : (s : State) (g : ℕ) (content : Option Name) → IsState s → IsState (with_global s g content)
IsState-global s g content h = record { mutators = h.mutators; registers = h.registers; globals = length-set s.globals g content ∙ h.globals }

-- the start has the form
pub IsState-start : IsState start
IsState-start = record { mutators = refl; registers = each-replicate (λ (m : Mutator). length m.registers ≡ 32) 32 idle refl; globals = refl }

-- The roots of the heap as one list of words: the registers by thread and number, and then the globals.
use Rattle.std.specs.Prelude.{ℕ, ◌+◌, ◌*◌, List, replicate}

-- 32 threads have 32 registers each, and there are 64 globals
abbrev pub register_count : ℕ
register_count = 32 * 32

abbrev pub root_count : ℕ
root_count = register_count + 64

-- where a register and a global stand
abbrev pub register_place : ℕ → ℕ → ℕ
register_place thread number = 32 * thread + number

abbrev pub global_place : ℕ → ℕ
global_place number = register_count + number

-- all of them are null
abbrev pub null_roots : List ℕ
null_roots = replicate root_count 0

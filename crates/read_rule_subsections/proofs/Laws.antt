-- Laws of the fields of a rule's subsections in the shapes that the functions ask. Assumes nothing.
use Rattle.std.specs.Prelude.{⊤, Ok}
use mathlib.Core.Path.{◌≡◌, sym, ap₂, ◌∙◌}
use mathlib.Core.Bool.{Bool}
use mathlib.Core.List.{List}
use Prim.Native.Nat.{ℕ, ◌+◌, ◌<◌, ◌≤◌}
use native.Mathlib.Omega.{arith}
use lib.ListN.{length, get_or}
use Rattle.format.specs.Bytes.{number, bytes_at}
use Rattle.format.specs.Reading.{stated}
use Rattle.format.proofs.Slots.{length_at}
use Rattle.read_sections.specs.Refusals.{first_refusal, sub_head_checks}
use Rattle.read_sections.proofs.Laws.{byte_number, room_for}

-- A subsection whose head has passed, with the least length m: all that it states is there.
pub record There (m : ℕ) (s : List ℕ) : Type 0 where
  pub least : m ≤ stated s
  pub within : stated s ≤ length s

pub head_there : {u : ⊤} (m n : ℕ) (seen : Bool) (s : List ℕ) (p : ℕ) → n ≤ length s → Ok u ≡ first_refusal p (sub_head_checks m seen n s) → There m s
head_there m n seen s p k e = let r = room_for p m n seen s e in record { least = r.0; within = omega (arith, r.1) }

-- One of its bytes.
pub byte_in : {m v : ℕ} {s : List ℕ} → There m s → (o : ℕ) → o < stated s → v ≡ get_or s o 0 → v ≡ number (bytes_at s o 1)
byte_in {s = s} r o h f = f ∙ byte_number s o (omega (arith, r.within))

-- Bytes that are there are as many as are asked.
pub length_in : (s : List ℕ) (o : ℕ) {n k : ℕ} → n ≡ k → o + n ≤ length s → length (bytes_at s o k) ≡ n
length_in s o {k = k} e h = length_at s o k (omega arith) ∙ sym e

-- The label template of a 0005, with z bytes after two masks: the code adds the masks' m bytes, the definition k.
pub label_at : (s : List ℕ) {m k z : ℕ} → m ≡ k → z ≡ 64 → bytes_at s (9 + k + k + 1) z ≡ bytes_at s (10 + m + m) 64
label_at s {m} {k} {z} e f = ap₂ (λ (i n : ℕ). bytes_at s i n) (omega arith) f

-- The digits of a number, set one after the other from the last on. Assumes nothing.
use mathlib.Core.Path.{◌≡◌, sym, ap, ap₂, ◌∙◌}
use mathlib.Core.List.{List, [], ◌∷◌, ◌++◌, map, map-append, append_assoc}
use Prim.Native.Nat.{ℕ, suc, ◌+◌, ◌-◌, ◌/◌, ◌%◌, ◌<◌, ◌≤◌}
use native.Mathlib.Omega.{arith}
use lib.ListN.{length, set, take, drop, take-append-drop}
use Rattle.std.proofs.lemmas.List.{take-set-le, drop-set, drop_all}
use Rattle.format.specs.Lines.{digit_text}
use Rattle.list_words.proofs.Digits.{last_digits}

-- the line that comes of it: its bytes before the number, the k digits of n that are left, and the bytes after them
abbrev pub with_digits : List ℕ → ℕ → ℕ → ℕ → ℕ → List ℕ
with_digits l first k b n = take first l ++ (map digit_text (last_digits k b n) ++ drop (first + k) l)

-- no digit is set yet, but the byte after them
pub digits_start : (l : List ℕ) (first c b n x : ℕ) → length l ≡ first + c + 1
    → with_digits (set l (first + c) x) first c b n ≡ take first l ++ (map digit_text (last_digits c b n) ++ (x ∷ []))
digits_start l first c b n x h =
    let ds = map digit_text (last_digits c b n) in
    ap₂ (λ (t u : List ℕ). t ++ (ds ++ u)) (take-set-le first l (first + c) x (omega arith))
    (drop-set l (first + c) x (omega arith) ∙ ap (λ (t : List ℕ). x ∷ t) (drop_all (first + c + 1) l (omega arith)))

-- one more digit is set
pub digit_turn : (l : List ℕ) (first k b n x : ℕ) → 0 < k → first + k ≤ length l → x ≡ digit_text (n % b)
    → with_digits (set l (first + (k - 1)) x) first (k - 1) b (n / b) ≡ with_digits l first k b n
unfolding last_digits
digit_turn l first k b n x h g e =
    let j = k - 1 in
    let s : k ≡ suc j = omega arith in
    let p : first + j + 1 ≡ first + k = omega arith in
    let ds = map digit_text (last_digits j b (n / b)) in
    ap₂ (λ (t u : List ℕ). t ++ (ds ++ u)) (take-set-le first l (first + j) x (omega arith)) (drop-set l (first + j) x (omega arith))
    ∙ ap₂ (λ (y i : ℕ). take first l ++ (ds ++ (y ∷ drop i l))) e p
    ∙ ap (λ (t : List ℕ). take first l ++ t) (sym (append_assoc ds (digit_text (n % b) ∷ []) (drop (first + k) l)))
    ∙ ap (λ (t : List ℕ). take first l ++ (t ++ drop (first + k) l)) (sym (map-append digit_text (last_digits j b (n / b)) (n % b ∷ [])))
    ∙ ap (λ (w : ℕ). take first l ++ (map digit_text (last_digits w b n) ++ drop (first + k) l)) (sym s)

-- all of them are
pub digits_end : (l : List ℕ) (first k b n : ℕ) → k ≤ 0 → with_digits l first k b n ≡ l
unfolding last_digits
digits_end l first k b n h =
    let z : k ≡ 0 = omega arith in
    let e : first + k ≡ first = omega arith in
    ap₂ (λ (w i : ℕ). take first l ++ (map digit_text (last_digits w b n) ++ drop i l)) z e
    ∙ take-append-drop first l

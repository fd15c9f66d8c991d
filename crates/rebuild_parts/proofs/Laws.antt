-- The views of a row are the fields of its part, in the lengths of its layout; and a number of one is its bytes.
use mathlib.Core.Path.{◌≡◌, sym, ap, ◌∙◌, subst}
use mathlib.Core.List.{List, []}
use Prim.Native.Nat.{ℕ}
use native.Mathlib.Omega.{arith}
use lib.ListN.{length}
use lib.Seq.{take_all}
use Rattle.format.specs.Bytes.{Bytes, big_endian, number, bytes_at}
use Rattle.format.specs.Parts.{Kind, layout, Part}
use Rattle.format.specs.Table.{Placed}
use Rattle.format.proofs.Numbers.{big_endian_number}
use Rattle.format.proofs.Fitting.{Fits}
use Rattle.format.proofs.Tiling.{row_of}
use Rattle.format.proofs.Viewing.{fields_viewed}
use Rattle.rebuild_parts.specs.Rows.{RowOf, RowOfKind, views_of}

-- The fields of a row's part are its views.
pub part_views : {bs : List ℕ} {k : ℕ} (p : Part) → RowOf bs k p → p.fields ≡ views_of bs k p.kind
part_views {bs} {k} p r =
    subst (λ (q : Part). q.fields ≡ views_of bs k q.kind) r.part (fields_viewed bs r.legal k r.placed r.is)

-- They fit the layout of its kind.
pub fitting : {bs : List ℕ} {k : ℕ} {j : Kind} → RowOfKind bs k j → (t : ℕ) × Fits t [] (layout j) (views_of bs k j)
fitting {bs} {k} {j} r =
    let o = row_of bs r.row.legal k r.row.placed r.row.is in
    let x : Placed = r.row.placed in
    let e : x.part.kind ≡ j = ap (λ (p : Part). p.kind) r.row.part ∙ r.kind in
    let v = fields_viewed bs r.row.legal k x r.row.is in (
      x.row.length,
      subst (λ (i : Kind). Fits x.row.length [] (layout i) (views_of bs k i)) e
          (subst (λ fs. Fits x.row.length [] (layout x.part.kind) fs) v o.fits),
    )

-- Bytes are those of the number that they state, in their width.
pub as_number : {r : ℕ} (w : ℕ) (bs : List ℕ) {s : List ℕ} → Bytes bs → bs ≡ s → length s ≡ w → r ≡ number (bytes_at bs 0 w) → big_endian w r ≡ s
unfolding bytes_at
as_number {r} w bs {s} b e l n =
    let k : length bs ≡ w = ap length e ∙ l in
    ap (big_endian w) (n ∙ ap number (take_all w bs (omega arith)))
    ∙ ap (λ (m : ℕ). big_endian m (number bs)) (sym k)
    ∙ big_endian_number bs b
    ∙ e

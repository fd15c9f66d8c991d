-- Where the fields of a part lie in bytes that are read, from its layout: the least length, each field's offset and length,
-- and the chosen fields that lie there.
-- Beside 01: the lengths in "Layouts", "Least lengths are ..".
use Rattle.std.specs.Prelude.{List, [], ◌∷◌, ◌++◌, ℕ, zero, suc, ◌+◌, get_or}
use Rattle.format.specs.Bytes.{number, bytes_at}
use Rattle.format.specs.Layout.{Item, code, zeros, own, count, fixed, counted, Fields}

-- the plain number in a part's length: all that no count states
abbrev pub least : List Item → ℕ
least [] = 0
least (code w v ∷ l) = w + least l
least (zeros n q ∷ l) = n + least l
least (own w ∷ l) = w + least l
least (count w k ∷ l) = w + least l
least (fixed n ∷ l) = n + least l
least (counted s ∷ l) = least l

-- a field with where it lies: its offset in the part and its length
pub record Slot : Type 0 where
  pub item : Item
  pub offset : ℕ
  pub width : ℕ

-- the slots of the fields in bytes that begin with the part, from offset o on; ns are the counts read so far
abbrev pub slots : List ℕ → List Item → List ℕ → ℕ → List Slot
slots ns [] bs o = []
slots ns (code w v ∷ l) bs o = record { item = code w v; offset = o; width = w } ∷ slots ns l bs (o + w)
slots ns (zeros n q ∷ l) bs o = record { item = zeros n q; offset = o; width = n } ∷ slots ns l bs (o + n)
slots ns (own w ∷ l) bs o = record { item = own w; offset = o; width = w } ∷ slots ns l bs (o + w)
slots ns (count w k ∷ l) bs o =
    record { item = count w k; offset = o; width = w } ∷ slots (ns ++ (number (bytes_at bs o w) ∷ [])) l bs (o + w)
slots ns (fixed n ∷ l) bs o = record { item = fixed n; offset = o; width = n } ∷ slots ns l bs (o + n)
slots ns (counted s ∷ l) bs o =
    record { item = counted s; offset = o; width = get_or ns s 0 } ∷ slots ns l bs (o + get_or ns s 0)

-- the offset of field number j
abbrev pub offset_of : List Slot → ℕ → ℕ
offset_of [] j = 0
offset_of (s ∷ ss) zero = s.offset
offset_of (s ∷ ss) (suc j) = offset_of ss j

-- the bytes of a slot
abbrev pub slot_bytes : List ℕ → Slot → List ℕ
slot_bytes bs s = bytes_at bs s.offset s.width

-- the chosen fields that lie in the slots
abbrev pub fields_in : List ℕ → List Slot → Fields
fields_in bs [] = []
fields_in bs (s ∷ ss) =
    let fs = fields_in bs ss in
    elim s.item [
      | code w v ↦ fs
      | zeros n q ↦ fs
      | own w ↦ fs
      | count w k ↦ fs
      | fixed n ↦ slot_bytes bs s ∷ fs
      | counted c ↦ slot_bytes bs s ∷ fs
    ]

-- the offset after the last slot, o where there is none
abbrev pub end_of : ℕ → List Slot → ℕ
end_of o [] = o
end_of o (s ∷ ss) = end_of (s.offset + s.width) ss

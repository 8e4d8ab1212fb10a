-- Parts of a table's bytes, read as they lie in the whole.
use Rattle.std.proofs.Common.{◌≡◌, ℕ, zero, suc, ◌+◌, ◌*◌, ◌<◌, ◌≤◌, List, [], map, length, get_or, take, drop, MatchOption, Some, None, Option, Bor, sym, ap, ◌∙◌, arith}
use Rattle.std.specs.Array.{IsFirstChunk}
use Rattle.std.specs.List.{range_with_len}
use Rattle.std.specs.Simd.{first_chunks}
use Rattle.std.proofs.lemmas.List.{get_or-take, get_or-drop, get_or-map, length-map, drop-drop}
use Rattle.std.proofs.lemmas.List.FromFn.{fill_by_all}
use Rattle.std.proofs.lemmas.Nat.{mul-add-lt}
use Rattle.shape_table.specs.Layout.{u16_at, u32_at, header_of, entry_in, index, row_weights}
use Rattle.shape_table.specs.declared.fields.Header.{Header}

-- A part has the bytes of the whole from an offset on.
pub record Copies (part whole : List ℕ) (offset size : ℕ) : Type 0 where
  pub same : (j : ℕ) → j < size → get_or part j 0 ≡ get_or whole (offset + j) 0

u16_copied : (part whole : List ℕ) (offset size at : ℕ) → Copies part whole offset size → at + 2 ≤ size → u16_at part at ≡ u16_at whole (offset + at)
unfolding u16_at
u16_copied p w o n at h l =
    let low = h.same at (omega arith) in
    let high = h.same (at + 1) (omega arith) in
    let next : o + (at + 1) ≡ o + at + 1 = omega arith in
    cc

u32_copied : (part whole : List ℕ) (offset size at : ℕ) → Copies part whole offset size → at + 4 ≤ size → u32_at part at ≡ u32_at whole (offset + at)
unfolding u32_at
u32_copied p w o n at h l =
    let low = u16_copied p w o n at h (omega arith) in
    let high = u16_copied p w o n (at + 2) h (omega arith) in
    let next : o + (at + 2) ≡ o + at + 2 = omega arith in
    cc

pub header_copied : (part whole : List ℕ) → Copies part whole 0 16 → header_of part ≡ header_of whole
header_copied p w h =
    let a = u16_copied p w 0 16 0 h (omega arith) in
    let b = u16_copied p w 0 16 2 h (omega arith) in
    let c = u16_copied p w 0 16 4 h (omega arith) in
    let d = u16_copied p w 0 16 6 h (omega arith) in
    let e = u32_copied p w 0 16 8 h (omega arith) in
    let f = u32_copied p w 0 16 12 h (omega arith) in
    cc

pub entry_copied : (part whole : List ℕ) (offset : ℕ) → Copies part whole offset 8 → entry_in part 0 ≡ entry_in whole offset
entry_copied p w o h =
    let a = h.same 0 (omega arith) in
    let b = h.same 1 (omega arith) in
    let c = u16_copied p w o 8 2 h (omega arith) in
    let d = u16_copied p w o 8 4 h (omega arith) in
    let e = u16_copied p w o 8 6 h (omega arith) in
    let z : o + 0 ≡ o = omega arith in
    cc

weight_copied : (part whole : List ℕ) (offset : ℕ) → Copies part whole offset 2 → u16_at part 0 ≡ u16_at whole offset
weight_copied p w o h = let z : o + 0 ≡ o = omega arith in u16_copied p w o 2 0 h (omega arith) ∙ ap (u16_at w) z

-- The first bytes.
pub first_copied : (n : ℕ) (bytes : List ℕ) → Copies (take n bytes) bytes 0 n
first_copied n bytes = record { same = λ j l. get_or-take n bytes j 0 l ∙ ap (λ k. get_or bytes k 0) (let z : j ≡ 0 + j = omega arith in z) }

-- A part from an offset on, taken apart into chunks: each chunk, where it lies in the whole.
chunk_is : (n k i : ℕ) (xs : List ℕ) → i < k → get_or (first_chunks n k xs) i [] ≡ take n (drop (i * n) xs)
chunk_is n zero i xs l = absurd (let z : ⊥ = omega arith in z)
chunk_is n (suc k) zero xs l = let z : 0 ≡ 0 * n = omega arith in ap (λ m. take n (drop m xs)) z
chunk_is n (suc k) (suc i) xs l =
    let z : n + i * n ≡ suc i * n = omega arith in
    chunk_is n k i (drop n xs) (omega arith) ∙ ap (take n) (drop-drop (i * n) n xs ∙ ap (λ m. drop m xs) z)

chunk_copied : (n k i offset size : ℕ) (bytes : List ℕ) → i < k → k * n ≤ size → Copies (get_or (first_chunks n k (take size (drop offset bytes))) i []) bytes (offset + i * n) n
chunk_copied n k i o size bytes l m = record {
  same = λ j h.
      let within : i * n + j < size = omega (arith, mul-add-lt i n j k l h) in
      let there : o + (i * n + j) ≡ o + i * n + j = omega arith in
      ap (λ p. get_or p j 0) (chunk_is n k i (take size (drop o bytes)) l)
      ∙ get_or-take n (drop (i * n) (take size (drop o bytes))) j 0 h
      ∙ get_or-drop (i * n) (take size (drop o bytes)) j 0
      ∙ get_or-take size (drop o bytes) (i * n + j) 0 within
      ∙ get_or-drop o bytes (i * n + j) 0
      ∙ ap (λ p. get_or bytes p 0) there;
}

-- Chunks that are read each by a rule give what the rule reads in the whole.
module _ {X : Type 0} (read : List ℕ → ℕ → X) (n : ℕ) (bytes : List ℕ) (copied : (part : List ℕ) (o : ℕ) → Copies part bytes o n → read part 0 ≡ read bytes o) where
  chunks_read : (k offset : ℕ) (chunks : List (List ℕ)) (at : ℕ → ℕ) → ((i : ℕ) → offset + i * n ≡ at i)
      → chunks ≡ first_chunks n k (take (k * n) (drop offset bytes)) → length chunks ≡ k
      → map (λ chunk. read chunk 0) chunks ≡ map (λ i. read bytes (at i)) (range_with_len 0 k)
  chunks_read k offset chunks at lies e count =
      fill_by_all (λ i. read bytes (at i)) (map (λ chunk. read chunk 0) chunks) k (read [] 0) (length-map chunks (λ chunk. read chunk 0) ∙ count)
      (λ i l.
      get_or-map (λ chunk. read chunk 0) chunks i [] (read [] 0) (omega arith)
      ∙ ap (λ cs. read (get_or cs i []) 0) e
      ∙ copied (get_or (first_chunks n k (take (k * n) (drop offset bytes))) i []) (offset + i * n) (chunk_copied n k i offset (k * n) bytes l (omega arith))
      ∙ ap (read bytes) (lies i))

-- The first sixteen bytes, if there are so many, hold the header.
pub first_read : (bytes : List ℕ) (o : Option (Bor (List ℕ))) (first : Bor (List ℕ)) → o ≡ Some first → MatchOption o (length bytes < 16) (λ y. IsFirstChunk bytes y.now 16)
    → (16 ≤ length bytes) × (header_of first.now ≡ header_of bytes)
first_read bytes None first e h = absurd (cc)
first_read bytes (Some y) first e h =
    let is_first : first.now ≡ take 16 bytes = let same : y ≡ first = cc in sym (ap (λ z. z.now) same) ∙ h.same in
    (h.enough, ap header_of is_first ∙ header_copied (take 16 bytes) bytes (first_copied 16 bytes))

-- The chunks of the index are its entries.
pub index_read : (bytes : List ℕ) (h : Header) (entries : ℕ) (chunks : List (List ℕ)) → h ≡ header_of bytes → entries ≡ h.entries
    → chunks ≡ first_chunks 8 entries (take (entries * 8) (drop h.index_offset bytes)) → length chunks ≡ entries
    → map (λ entry. entry_in entry 0) chunks ≡ index bytes
index_read bytes h entries chunks own all e count =
    chunks_read entry_in 8 bytes (λ part o. entry_copied part bytes o) entries h.index_offset chunks (λ i. h.index_offset + 8 * i) (λ i. omega arith) e count
    ∙ ap (λ n. map (λ i. entry_in bytes (h.index_offset + 8 * i)) (range_with_len 0 n)) all
    ∙ ap (λ (g : Header). map (λ i. entry_in bytes (g.index_offset + 8 * i)) (range_with_len 0 g.entries)) own

-- The chunks of a row are its weights.
pub row_read : (bytes : List ℕ) (h : Header) (row r periods : ℕ) (chunks : List (List ℕ)) → h ≡ header_of bytes → r ≡ row → periods ≡ h.periods
    → chunks ≡ first_chunks 2 periods (take (periods * 2) (drop (h.row_offset + 2 * (r * periods)) bytes)) → length chunks ≡ periods
    → map (λ weight. u16_at weight 0) chunks ≡ row_weights bytes row
row_read bytes h row r periods chunks own same all e count =
    chunks_read u16_at 2 bytes (λ part o. weight_copied part bytes o) periods (h.row_offset + 2 * (r * periods)) chunks
    (λ i. h.row_offset + 2 * (r * periods + i)) (λ i. omega arith) e count
    ∙ ap (λ n. map (λ i. u16_at bytes (h.row_offset + 2 * (n * periods + i))) (range_with_len 0 periods)) same
    ∙ ap (λ n. map (λ i. u16_at bytes (h.row_offset + 2 * (row * n + i))) (range_with_len 0 n)) all
    ∙ ap (λ (g : Header). map (λ i. u16_at bytes (g.row_offset + 2 * (row * g.periods + i))) (range_with_len 0 g.periods)) own

-- What is read of a file that was written, and a file written as it was read. Assumes nothing.
use Rattle.std.proofs.Common.{◌≡◌, ℕ, ◌+◌, ◌*◌, ◌<◌, ◌≤◌, List, [], ◌∷◌, ◌++◌, length, get_or, take, drop, sym, refl, ap, ◌∙◌, ap₂, append-nil, arith, length-append, take_all, drop-drop, drop_at}
use Rattle.storage.proofs.ByteParts.{length_part, part-part, small_part, sub_part}
use Rattle.storage.proofs.JoinedParts.{joined_parts, length_joined, part_joined}
use Rattle.storage.proofs.NumberBytes.{number_back_4}
use Rattle.storage.proofs.RecordBytes.{bytes_back_record, length_record, part_back_4, record_back}
use Rattle.storage.specs.ByteNumbers.{bytes_of, number_of, part}
use Rattle.storage.specs.Files.{Accepted, Keeps, RightPair, count_in, file_held, file_length, file_of, head_bytes, kind_in, pair_bytes, pairs_bytes, place, record_in, records_bytes}
use Rattle.storage.specs.Records.{Fit, record_bytes, record_of}
use Rattle.storage.specs.declared.stable.memory.Cell.{Cell}

module _ (n kind : ℕ) (cell : ℕ → Cell) where
  pub length_pairs : length (pairs_bytes n) ≡ 8 * n
  length_pairs = length_joined (pair_bytes n) 8 (λ i. refl) n

  pub length-records : length (records_bytes cell n) ≡ 36 * n
  length-records = length_joined (λ i. record_bytes (cell i)) 36 (λ i. length_record (cell i)) n

  pub length_file : length (file_of n kind cell) ≡ file_length n
  length_file = omega (arith, length-append (pairs_bytes n) (records_bytes cell n), length_pairs, length-records)

  pair_there : (i : ℕ) → i < n → part (file_of n kind cell) (4 + 8 * i) 8 ≡ pair_bytes n i
  pair_there i h = ap (take 8) (sym (drop-drop (8 * i) 4 (file_of n kind cell))) ∙ part_joined (pair_bytes n) 8 (λ i. refl) n i (records_bytes cell n) h

  pub record_there : (i : ℕ) → i < n → part (file_of n kind cell) (place n i) 36 ≡ record_bytes (cell i)
  record_there i h =
      let past : drop (4 + 8 * n) (file_of n kind cell) ≡ records_bytes cell n ++ [] =
      sym (drop-drop (8 * n) 4 (file_of n kind cell)) ∙ drop_at (pairs_bytes n) (records_bytes cell n) (8 * n) length_pairs ∙ sym (append-nil (records_bytes cell n)) in
      ap (take 36) (sym (drop-drop (36 * i) (4 + 8 * n) (file_of n kind cell)) ∙ ap (drop (36 * i)) past)
      ∙ part_joined (λ i. record_bytes (cell i)) 36 (λ i. length_record (cell i)) n i [] h

  right_pair : n ≤ 15 → (i : ℕ) → i < n → RightPair (file_of n kind cell) i
  right_pair few i h =
      let bs = file_of n kind cell in
      let offset : part bs (4 + 8 * i) 4 ≡ bytes_of 4 (place n i) = sym (sub_part bs (4 + 8 * i) 8 0 4 (4 + 8 * i) (omega arith) (omega arith)) ∙ ap (λ (l : List ℕ). part l 0 4) (pair_there i h) in
      let size : part bs (8 + 8 * i) 4 ≡ bytes_of 4 36 = sym (sub_part bs (4 + 8 * i) 8 4 4 (8 + 8 * i) (omega arith) (omega arith)) ∙ ap (λ (l : List ℕ). part l 4 4) (pair_there i h) in
      (ap number_of offset ∙ number_back_4 (place n i) (omega arith), ap number_of size)

  pub accepted : 1 ≤ n → n ≤ 15 → Accepted kind (file_of n kind cell)
  accepted some few = record { least = some; most = few; same_kind = refl; zero_a = refl; zero_b = refl; size = length_file; pairs = right_pair few }

  -- a file of records that fit keeps them
  pub keeps : 1 ≤ n → n ≤ 15 → ((i : ℕ) → i < n → Fit (cell i)) → Keeps n kind cell (file_of n kind cell)
  keeps some few fit = record {
    file = accepted some few;
    count = refl;
    records = λ i h. ap record_of (record_there i h) ∙ record_back (cell i) (fit i h);
  }

first_four : (bs : List ℕ) → 4 ≤ length bs → take 4 bs ≡ get_or bs 0 0 ∷ get_or bs 1 0 ∷ get_or bs 2 0 ∷ get_or bs 3 0 ∷ []
first_four [] h = absurd (omega arith)
first_four (a ∷ []) h = absurd (omega arith)
first_four (a ∷ b ∷ []) h = absurd (omega arith)
first_four (a ∷ b ∷ c ∷ []) h = absurd (omega arith)
first_four (a ∷ b ∷ c ∷ d ∷ bs) h = refl

-- bytes that meet the layout are the file of the records that they have
pub same_file : (bs : List ℕ) (n : ℕ) → ((i : ℕ) → get_or bs i 0 < 256) → n ≡ count_in bs → get_or bs 2 0 ≡ 0 → get_or bs 3 0 ≡ 0 → length bs ≡ file_length n → ((i : ℕ) → i < n → RightPair bs i) → file_held bs n ≡ bs
same_file bs n small count zero_a zero_b size pairs =
    let head : head_bytes n (kind_in bs) ≡ part bs 0 4 = sym (first_four bs (omega arith) ∙ rw (zero_a, zero_b, count)) in
    let at : (i : ℕ) → place n i ≡ place (count_in bs) i = λ i. ap (λ (m : ℕ). place m i) count in
    let pair : (i : ℕ) → i < n → pair_bytes n i ≡ part bs (4 + 8 * i) 8 =
    λ i h.
    ap₂ (λ (o l : ℕ). bytes_of 4 o ++ bytes_of 4 l) (at i ∙ sym (pairs i h).0) (sym (pairs i h).1)
    ∙ ap₂ (λ (x y : List ℕ). x ++ y) (part_back_4 bs (4 + 8 * i) small (omega arith)) (part_back_4 bs (8 + 8 * i) small (omega arith))
    ∙ part-part bs (4 + 8 * i) 4 (8 + 8 * i) 4 (omega arith) in
    let one : (i : ℕ) → i < n → record_bytes (record_in bs n i) ≡ part bs (4 + 8 * n + 36 * i) 36 =
    λ i h. bytes_back_record (part bs (place n i) 36) (small_part bs (place n i) 36 small) (length_part bs (place n i) 36 (omega arith)) in
    ap₂ (λ (x y : List ℕ). x ++ y) head (ap₂ (λ (x y : List ℕ). x ++ y) (joined_parts (pair_bytes n) 8 bs 4 n pair) (joined_parts (λ i. record_bytes (record_in bs n i)) 36 bs (4 + 8 * n) n one))
    ∙ ap (λ (l : List ℕ). part bs 0 4 ++ l) (part-part bs 4 (8 * n) (4 + 8 * n) (36 * n) refl)
    ∙ part-part bs 0 4 4 (8 * n + 36 * n) refl
    ∙ take_all (4 + (8 * n + 36 * n)) bs (omega arith)

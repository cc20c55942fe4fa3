-- A file written piece by piece. Assumes nothing.
use Rattle.std.proofs.Common.{◌≡◌, ℕ, ◌+◌, ◌*◌, ◌≤◌, List, length, sym, refl, ap, ◌∙◌, arith}
use Rattle.std.specs.List.{range_with_len, flat_map}
use Rattle.storage.proofs.ByteWrites.{write_all, wrote, wrote_more}
use Rattle.storage.proofs.FileLayout.{length_file, length_pairs}
use Rattle.storage.proofs.JoinedParts.{joined_more, length_joined}
use Rattle.storage.specs.ByteNumbers.{overwritten}
use Rattle.storage.specs.Files.{file_length, file_of, head_bytes, pairs_bytes, records_bytes}
use Rattle.storage.specs.declared.stable.memory.Cell.{Cell}

-- one piece more, of w bytes, behind the i that are written from k on
pub piece_more : (f : ℕ → List ℕ) (w : ℕ) → ((i : ℕ) → length (f i) ≡ w) → (bs : List ℕ) (k i m : ℕ) (was next : List ℕ) → was ≡ overwritten bs k (flat_map f (range_with_len 0 i)) → next ≡ overwritten was m (f i) → m ≡ k + w * i → k + w * i ≤ length bs → next ≡ overwritten bs k (flat_map f (range_with_len 0 (i + 1)))
piece_more f w len bs k i m was next e d at room =
    let size = length_joined f w len i in
    (wrote_more (record { is = e }) m (f i) next d refl (omega arith) (omega arith)).is ∙ ap (overwritten bs k) (joined_more f i)

-- the head, the pairs and the records, over all bytes of the file's length
pub whole_file : (n kind : ℕ) (cell : ℕ → Cell) (bs head front all : List ℕ) → length bs ≡ file_length n → head ≡ overwritten bs 0 (head_bytes n kind) → front ≡ overwritten head 4 (pairs_bytes n) → all ≡ overwritten front (4 + 8 * n) (records_bytes cell n) → all ≡ file_of n kind cell
whole_file n kind cell bs head front all size d e f =
    let pairs = length_pairs n kind cell in
    let w1 = wrote {bs = bs} {ys = head_bytes n kind} {k = 0} _ head d refl in
    let w2 = wrote_more w1 4 (pairs_bytes n) front e refl refl (omega arith) in
    let w3 = wrote_more w2 (4 + 8 * n) (records_bytes cell n) all f refl (omega arith) (omega arith) in
    w3.is ∙ write_all bs (file_of n kind cell) (size ∙ sym (length_file n kind cell))

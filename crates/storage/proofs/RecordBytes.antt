-- A record comes back from its bytes, and 36 bytes from their record. Assumes nothing.
use Rattle.std.proofs.Common.{◌≡◌, ℕ, suc, ◌+◌, ◌<◌, ◌≤◌, List, ◌++◌, length, get_or, refl, ap, ◌∙◌, arith, take_all}
use Rattle.storage.proofs.ByteParts.{length_part, number_in_part, part-part, small_part}
use Rattle.storage.proofs.NumberBytes.{bytes_back_4, bytes_back_8, number_back_4, number_back_8, number_is}
use Rattle.std.specs.Int.{byte_worth, sum_through}
use Rattle.storage.specs.ByteNumbers.{bytes_of, number_at, number_of, part}
use Rattle.storage.specs.Records.{Fit, record_bytes, record_of}
use Rattle.storage.specs.declared.stable.memory.Cell.{Cell}

pub length_record : (c : Cell) → length (record_bytes c) ≡ 36
unfolding record_bytes
length_record c = refl

pub record_back : (c : Cell) → Fit c → record_of (record_bytes c) ≡ c
unfolding record_bytes record_of
record_back c fit =
    let p = c.page in
    let e0 = number_back_4 c.left fit.left in
    let e1 = number_back_4 p.incarnation fit.incarnation in
    let e2 = number_back_4 p.written.timestamp.sequence fit.sequence in
    let e3 = number_back_4 p.written.timestamp.replica fit.replica in
    let e4 = number_back_8 p.written.code fit.code in
    let e5 = number_back_4 p.intended_sequence fit.next_sequence in
    let e6 = number_back_8 p.intended_code fit.next_code in
    rw (e0, e1, e2, e3, e4, e5, e6)

-- a number of w + 1 bytes, d bytes into a record, as `from_le_bytes` gives it
pub read : (w : ℕ) (bs xs : List ℕ) (k d m n : ℕ) → n ≡ sum_through (λ i. byte_worth i (get_or xs i 0)) w → xs ≡ part bs m (suc w) → m ≡ k + d → d + suc w ≤ 36 → k + 36 ≤ length bs → n ≡ number_at (part bs k 36) d (suc w)
read w bs xs k d m n e f at inside room =
    e ∙ number_is xs w (ap length f ∙ length_part bs m (suc w) (omega arith)) ∙ ap number_of f ∙ number_in_part bs k 36 d (suc w) m at inside

-- the bytes of the number in a part are that part
pub part_back_4 : (bs : List ℕ) (k : ℕ) → ((i : ℕ) → get_or bs i 0 < 256) → k + 4 ≤ length bs → bytes_of 4 (number_at bs k 4) ≡ part bs k 4
part_back_4 bs k small h = bytes_back_4 (part bs k 4) (small_part bs k 4 small) (length_part bs k 4 h)

part_back_8 : (bs : List ℕ) (k : ℕ) → ((i : ℕ) → get_or bs i 0 < 256) → k + 8 ≤ length bs → bytes_of 8 (number_at bs k 8) ≡ part bs k 8
part_back_8 bs k small h = bytes_back_8 (part bs k 8) (small_part bs k 8 small) (length_part bs k 8 h)

pub bytes_back_record : (bs : List ℕ) → ((i : ℕ) → get_or bs i 0 < 256) → length bs ≡ 36 → record_bytes (record_of bs) ≡ bs
unfolding record_bytes record_of
bytes_back_record bs small len =
    let e0 = part_back_4 bs 0 small (omega arith) in
    let e1 = part_back_4 bs 4 small (omega arith) in
    let e2 = part_back_4 bs 8 small (omega arith) in
    let e3 = part_back_4 bs 12 small (omega arith) in
    let e4 = part_back_8 bs 16 small (omega arith) in
    let e5 = part_back_4 bs 24 small (omega arith) in
    let e6 = part_back_8 bs 28 small (omega arith) in
    let parts : record_bytes (record_of bs) ≡ part bs 0 4 ++ (part bs 4 4 ++ (part bs 8 4 ++ (part bs 12 4 ++ (part bs 16 8 ++ (part bs 24 4 ++ part bs 28 8))))) = λ i. e0 i ++ (e1 i ++ (e2 i ++ (e3 i ++ (e4 i ++ (e5 i ++ e6 i))))) in
    parts
    ∙ rw (part-part bs 24 4 28 8 refl, part-part bs 16 8 24 12 refl, part-part bs 12 4 16 20 refl, part-part bs 8 4 12 24 refl, part-part bs 4 4 8 28 refl, part-part bs 0 4 4 32 refl)
    (take_all 36 bs (omega arith))

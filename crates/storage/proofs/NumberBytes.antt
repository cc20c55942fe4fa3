-- A number comes back from its bytes, and bytes from their number. Assumes nothing.
use Rattle.std.proofs.Common.{◌≡◌, ℕ, zero, suc, ◌+◌, ◌*◌, ◌^◌, ◌<◌, List, [], ◌∷◌, length, get_or, sym, refl, ap, ◌∙◌, arith}
use Rattle.std.proofs.Math.Nat.{pow-suc, mul_assoc}
use Rattle.std.proofs.lemmas.Nat.{from_le_bytes-to_le_bytes_4, from_le_bytes-to_le_bytes_8, le_bytes_4, le_bytes_8}
use Rattle.std.specs.Int.{byte_worth, sum_through}
use Rattle.storage.specs.ByteNumbers.{bytes_of, number_of}

first_apart : (f : ℕ → ℕ) (k : ℕ) → sum_through f (suc k) ≡ f 0 + sum_through (λ i. f (suc i)) k
first_apart f zero = refl
first_apart f (suc k) = let e = first_apart f k in omega (arith, e)

one_higher : (f : ℕ → ℕ) (k : ℕ) → sum_through (λ i. byte_worth (suc i) (f i)) k ≡ sum_through (λ i. byte_worth i (f i)) k * 256
one_higher f zero = omega arith
one_higher f (suc k) =
    let e = one_higher f k in
    let h : f (suc k) * 256 ^ suc (suc k) ≡ f (suc k) * 256 ^ suc k * 256 = ap (λ (m : ℕ). f (suc k) * m) (pow-suc 256 (suc k)) ∙ sym (mul_assoc (f (suc k)) (256 ^ suc k) 256) in
    omega (arith, e, h)

-- the number of bytes is what `from_le_bytes` gives
pub number_is : (bs : List ℕ) (k : ℕ) → length bs ≡ suc k → sum_through (λ i. byte_worth i (get_or bs i 0)) k ≡ number_of bs
number_is [] k l = absurd (omega arith)
number_is (b ∷ []) zero l = omega arith
number_is (b ∷ c ∷ bs) zero l = absurd (omega arith)
number_is (b ∷ bs) (suc k) l =
    let e = number_is bs k (omega arith) in
    first_apart (λ i. byte_worth i (get_or (b ∷ bs) i 0)) k ∙ ap (λ m. b + m) (one_higher (λ i. get_or bs i 0) k ∙ ap (λ m. m * 256) e)

-- of 4 and of 8 bytes: the library proves its two for each width alone
pub number_back_4 : (n : ℕ) → n < 2 ^ 32 → number_of (bytes_of 4 n) ≡ n
number_back_4 n h = sym (number_is (bytes_of 4 n) 3 refl) ∙ from_le_bytes-to_le_bytes_4 n h

pub number_back_8 : (n : ℕ) → n < 2 ^ 64 → number_of (bytes_of 8 n) ≡ n
number_back_8 n h = sym (number_is (bytes_of 8 n) 7 refl) ∙ from_le_bytes-to_le_bytes_8 n h

-- bytes, and so below 256
pub bytes_back_4 : (bs : List ℕ) → ((i : ℕ) → get_or bs i 0 < 256) → length bs ≡ 4 → bytes_of 4 (number_of bs) ≡ bs
bytes_back_4 bs small l = le_bytes_4 bs (number_of bs) l small (sym (number_is bs 3 l))

pub bytes_back_8 : (bs : List ℕ) → ((i : ℕ) → get_or bs i 0 < 256) → length bs ≡ 8 → bytes_of 8 (number_of bs) ≡ bs
bytes_back_8 bs small l = le_bytes_8 bs (number_of bs) l small (sym (number_is bs 7 l))

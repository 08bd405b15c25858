-- Sets of terminals. A set is a number whose bit i stands for terminal i (document 01, "The site"). A property of terminals is a function to Bool.
-- Every definition takes the lowest terminal first, so that each law is one induction. Assumes nothing.
use Rattle.std.specs.Prelude.{ℕ, zero, suc, ◌+◌, ◌*◌, ◌/◌, ◌%◌, ◌^◌, Bool, true, false, not, eqb, ltb}
use Rattle.sets.specs.Tests.{◌and◌, ◌or◌}

abbrev pub Terminal : Type 0
Terminal = ℕ

abbrev pub Set : Type 0
Set = ℕ

-- 1 for yes, 0 for no
abbrev pub bit : Bool → ℕ
bit true = 1
bit false = 0

-- is terminal i in the set s?
unfoldable pub mem : Terminal → Set → Bool
mem zero s = eqb (s % 2) 1
mem (suc i) s = mem i (s / 2)

-- of the terminals below n: how many have P; have all of them P; has one of them P; the set of those that have P
unfoldable pub count : (n : ℕ) → (Terminal → Bool) → ℕ
count zero P = 0
count (suc n) P = bit (P 0) + count n (λ i. P (suc i))

unfoldable pub all : (n : ℕ) → (Terminal → Bool) → Bool
all zero P = true
all (suc n) P = P 0 and all n (λ i. P (suc i))

unfoldable pub some : (n : ℕ) → (Terminal → Bool) → Bool
some zero P = false
some (suc n) P = P 0 or some n (λ i. P (suc i))

unfoldable pub mask : (n : ℕ) → (Terminal → Bool) → Set
mask zero P = 0
mask (suc n) P = bit (P 0) + 2 * mask n (λ i. P (suc i))

-- s has no terminal at or above n
unfoldable pub within : (n : ℕ) (s : Set) → Bool
within n s = ltb s (2 ^ n)

-- the operations on sets of w bits
unfoldable pub size : (w : ℕ) (s : Set) → ℕ
size w s = count w (λ i. mem i s)

unfoldable pub singleton : (w : ℕ) (i : Terminal) → Set
singleton w i = mask w (λ j. eqb j i)

unfoldable pub with : (w : ℕ) (s : Set) (i : Terminal) → Set
with w s i = mask w (λ j. mem j s or eqb j i)

unfoldable pub without : (w : ℕ) (s : Set) (i : Terminal) → Set
without w s i = mask w (λ j. mem j s and not (eqb j i))

-- the terminals below n that are in neither of two sets
abbrev pub outside : (n : ℕ) (a b : Set) → Set
outside n a b = mask n (λ i. not (mem i a) and not (mem i b))

-- three sets are a partition of the terminals below n: each is in one of them, and nobody else is
unfoldable pub is_partition : (n : ℕ) (f l r : Set) → Bool
is_partition n f l r =
    within n f and within n l and within n r and all n (λ b. eqb (bit (mem b f) + bit (mem b l) + bit (mem b r)) 1)

-- What a set of replicas weighs, and when it weighs enough. Assumes nothing.
use Rattle.std.specs.Prelude.{ℕ, zero, suc, ◌+◌, ◌*◌, ◌%◌, ◌^◌, Bool, true, cond, List, nat_lt, slice_index}

-- what the replicas below n that f holds weigh together, where replica k weighs w k
abbrev pub weigh : (ℕ → ℕ) → (ℕ → Bool) → ℕ → ℕ
weigh w f zero = 0
weigh w f (suc n) = weigh w f n + cond (f n) (w n) 0

-- the set of all replicas
abbrev pub all : ℕ → Bool
all k = true

-- each replica weighs 1
abbrev pub one : ℕ → ℕ
one k = 1

-- how many replicas below n the set f holds
abbrev pub counted : (ℕ → Bool) → ℕ → ℕ
counted f n = weigh one f n

-- the weight of replica k in a list of weights, 0 past its end
abbrev pub weight_at : List ℕ → ℕ → ℕ
weight_at ws k = slice_index ws k

-- the weights of all and of a set so far, with one replica more. Modulo 2^32, to be a sum of 32 bits at any
-- numbers: the weights of 15 replicas never get there.
abbrev pub with_weight : ℕ × ℕ → ℕ → Bool → ℕ × ℕ
with_weight sums weight member = ((sums.0 + weight) % 2 ^ 32, (sums.1 + cond member weight 0) % 2 ^ 32)

-- the rule of weights: twice the weight of the set exceeds the weight of all n replicas
abbrev pub heavy : (ℕ → ℕ) → ℕ → (ℕ → Bool) → Bool
heavy w n f = nat_lt (weigh w all n) (2 * weigh w f n)

-- the rule of the majority: twice the members exceed the n replicas
abbrev pub most : ℕ → (ℕ → Bool) → Bool
most n f = nat_lt n (2 * counted f n)

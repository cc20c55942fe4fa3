-- The state of a cluster, and what stays the same in it. Assumes nothing.
use Rattle.std.specs.Prelude.{◌≡◌, ℕ, Bool, List, [], replicate, vec_items, slice_index_or, slice_set}
use Rattle.cluster.specs.Fitness.{of_kind}
use Rattle.cluster.specs.Transits.{blank_record}
use Rattle.cluster.specs.declared.cluster.Cluster.{Cluster}
use Rattle.replica.specs.Effects.{Effect, Place, left_after, pages_after}
use Rattle.replica.specs.Records.{down}
use Rattle.replica.specs.declared.message.Message.{Message}
use Rattle.replica.specs.declared.record.Replica.{Replica}
use Rattle.storage.specs.declared.entry.Entry.{Ghosts as EntryOf}
use Rattle.storage.specs.declared.page.Page.{Page}
use Rattle.storage.specs.declared.quorum.Quorum.{Ghosts as QuorumOf}
use Rattle.storage.specs.declared.stable.Storage.{Ghosts as StorageOf}

-- what events change: the pages and the stores left, the records of the replicas, the messages in transit
pub record State : Type 0 where
  pub page : ℕ → Page
  pub left : ℕ → ℕ
  pub records : List Replica
  pub transit : List Message

-- what stays: how many replicas storage and quorum have, which sets are enough, which layer refuses, which codes are of the kind
pub record Setup : Type 0 where
  pub replicas : ℕ
  pub size : ℕ
  pub enough : (ℕ → Bool) → Bool
  pub layer : ℕ → ℕ
  pub valid : ℕ → Bool

-- the meanings of a storage, a quorum rule and a kind of entry are those that their bounds name
module _ {S Q E : Type 0} where
  abbrev pub state_of : StorageOf S → Cluster S Q E → State
  state_of m c = record { page = m.page c.storage; left = m.left c.storage; records = c.records; transit = vec_items c.transit.messages }

  abbrev pub setup_of : StorageOf S → QuorumOf Q → EntryOf E → Cluster S Q E → Setup
  setup_of m q k c = record { replicas = m.replicas c.storage; size = q.size c.quorum; enough = q.enough c.quorum; layer = m.layer c.storage; valid = of_kind k }

  -- a call on c did what the rule f says: d is left, and a answered
  pub record Does {A : Type 0} (m : StorageOf S) (q : QuorumOf Q) (k : EntryOf E) (f : Setup → State → State × A) (c d : Cluster S Q E) (a : A) : Type 0 where
    pub after : f (setup_of m q k c) (state_of m c) ≡ (state_of m d, a)
    pub setup : setup_of m q k d ≡ setup_of m q k c

-- the record of replica i
abbrev pub record_at : State → ℕ → Replica
record_at s i = slice_index_or s.records i blank_record

abbrev pub with_record : State → ℕ → Replica → State
with_record s i r = record { page = s.page; left = s.left; records = slice_set s.records i r; transit = s.transit }

abbrev pub with_transit : State → List Message → State
with_transit s ms = record { page = s.page; left = s.left; records = s.records; transit = ms }

-- what replica i finds in storage
abbrev pub place_at : Setup → State → ℕ → Place
place_at u s i = record { replicas = u.replicas; own = i; page = s.page i; left = s.left i; layer = u.layer i }

-- replica i has done what the effect says
abbrev pub with_effect : {A : Type 0} → State → ℕ → Effect A → State
with_effect s i e = record { page = pages_after i e.stores s.page; left = left_after i e.stores s.left; records = slice_set s.records i e.replica; transit = s.transit }

-- a cluster as it starts: all replicas down, nothing in transit
abbrev pub begins : (ℕ → Page) → (ℕ → ℕ) → State
begins page left = record { page = page; left = left; records = replicate 15 down; transit = [] }

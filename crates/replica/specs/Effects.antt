-- What a replica finds in storage, and what an event changes there. Assumes nothing.
use Rattle.std.specs.Prelude.{◌≡◌, ℕ, ◌-◌, Some, None, Option, Result}
use Rattle.replica.specs.declared.record.Replica.{Replica}
use Rattle.replica.specs.declared.site.Site.{Site}
use Rattle.storage.specs.Storages.{stored, updated}
use Rattle.storage.specs.declared.fault.StorageFault.{StorageFault}
use Rattle.storage.specs.declared.page.Page.{Page}
use Rattle.storage.specs.declared.stable.Storage.{Ghosts as StorageOf}

-- what stable storage has for one replica: how many replicas there are, this one's number and page,
-- the stores left to it, and the layer that refuses once none is
pub record Place : Type 0 where
  pub replicas : ℕ
  pub own : ℕ
  pub page : Page
  pub left : ℕ
  pub layer : ℕ

-- where replica i stands in the storage s, whose meaning is m
abbrev pub site_in : {S : Type 0} → StorageOf S → S → ℕ → Site
site_in m s i = record { own = i; page = m.page s i }

-- the place of a replica at a site in the storage s
abbrev pub place : {S : Type 0} → StorageOf S → S → Site → Place
place m s t = record { replicas = m.replicas s; own = t.own; page = t.page; left = m.left s t.own; layer = m.layer s t.own }

-- what a store at a place answers
abbrev pub store_at : Place → Result (Unit {0}) StorageFault
store_at a = stored a.replicas a.own a.left a.layer

-- an event leaves a record, stores a page or none, and gives an answer
pub record Effect (A : Type 0) : Type 0 where
  pub replica : Replica
  pub stores : Option Page
  pub answer : A

-- the pages, and the stores left, after replica i stored a page or none
abbrev pub pages_after : ℕ → Option Page → (ℕ → Page) → ℕ → Page
pages_after i None pages = pages
pages_after i (Some p) pages = updated pages i p

abbrev pub left_after : ℕ → Option Page → (ℕ → ℕ) → ℕ → ℕ
left_after i None left = left
left_after i (Some p) left = updated left i (left i - 1)

-- storage s, whose meaning is m, became t, the record became r and the answer is a, as the effect e at replica i says
pub record Performs {S A : Type 0} (m : StorageOf S) (i : ℕ) (e : Effect A) (s t : S) (r : Replica) (a : A) : Type 0 where
  pub answer : a ≡ e.answer
  pub replica : r ≡ e.replica
  pub pages : m.page t ≡ pages_after i e.stores (m.page s)
  pub lefts : m.left t ≡ left_after i e.stores (m.left s)
  pub layers : m.layer t ≡ m.layer s
  pub size : m.replicas t ≡ m.replicas s

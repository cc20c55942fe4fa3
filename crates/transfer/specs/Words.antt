-- Entries, timestamps and faults in words. Assumes nothing.
use Rattle.std.specs.Prelude.{ℕ, List, ◌++◌, codes, decimal}
use Rattle.storage.specs.declared.entry.bid.Bid.{Bid}
use Rattle.storage.specs.declared.entry.bid.Bid.TheVariants.{Open, Offer, PassedIn, Withdrawn}
use Rattle.storage.specs.declared.entry.span.Span.{Span}
use Rattle.storage.specs.declared.fault.Reason.{Reason}
use Rattle.storage.specs.declared.fault.Reason.TheVariants.{NoSuchReplica, NoStoresLeft}
use Rattle.storage.specs.declared.fault.StorageFault.{StorageFault}
use Rattle.storage.specs.declared.file.opening.OpenRefusal.{OpenRefusal}
use Rattle.storage.specs.declared.file.opening.OpenRefusal.TheVariants as opening
use Rattle.storage.specs.declared.file.writing.WriteRefusal.{WriteRefusal}
use Rattle.storage.specs.declared.file.writing.WriteRefusal.TheVariants as writing
use Rattle.storage.specs.declared.timestamp.Timestamp.{Timestamp}

abbrev pub bid_words : Bid → List ℕ
bid_words Open = codes "open"
bid_words (Offer p b) = decimal p.value ++ (codes " cents a kilogram by buyer " ++ decimal b.value)
bid_words PassedIn = codes "passed in"
bid_words Withdrawn = codes "withdrawn"

abbrev pub span_words : Span → List ℕ
span_words s = decimal s.length ++ (codes " bytes from " ++ decimal s.offset)

abbrev pub timestamp_words : Timestamp → List ℕ
timestamp_words t = decimal t.sequence ++ (codes "." ++ decimal t.replica)

abbrev pub reason_words : Reason → List ℕ
reason_words NoSuchReplica = codes "8 no such office"
reason_words NoStoresLeft = codes "17 no store left"

abbrev pub fault_words : StorageFault → List ℕ
fault_words f = reason_words f.reason ++ (codes ": office " ++ (decimal f.replica ++ (codes ", layer " ++ decimal f.layer)))

abbrev pub open_words : OpenRefusal → List ℕ
open_words opening.Length = codes "1 not of exact length"
open_words opening.Header = codes "2 header"
open_words opening.Kind = codes "3 kind number"
open_words (opening.Pair i) = codes "4 pair " ++ decimal i

abbrev pub write_words : WriteRefusal → List ℕ
write_words writing.Length = codes "1 not of exact length"
write_words writing.ReplicaCount = codes "5 not 1 to 15 offices"

use Rattle.std.proofs.Common.{ℕ, ap, rules}
use mathlib.Core.Path.{fun_ext}
use Rattle.storage.proofs.stable.quota.QuotaStorageStorage.store.Goals as goal

pub returns-clause-layers : goal.returns-clause-layers
returns-clause-layers g c = fun_ext (λ j. let e = ap (λ (f : ℕ → ℕ). f j) c.store.ensures.lefts in let h = c.store.ensures.layers in search rules)

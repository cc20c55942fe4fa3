use Rattle.std.proofs.Common.{sym}
use Rattle.storage.specs.SpanCodes.{span_back}
use Rattle.storage.proofs.entry.span.Span.new.Goals as goal

pub returns-then-offset-eq0 : goal.returns-then-offset-eq0
returns-then-offset-eq0 c = sym (span_back _)

-- `fields::utf8::is_utf8`: what is left to read, with what must still come of a character, is judged as the whole is.
-- A byte that leaves something to come keeps that, and at the end nothing may be left to come.
use Rattle.std.proofs.Common.{◌≡◌, drop}
use Rattle.definition.specs.Utf8.{octets, utf8}
use Rattle.fields.specs.Pending.{ranges_of}
use Rattle.fields.proofs.utf8.is_utf8.Given as goal

abbrev pub invariant-loop-b : goal.invariant-loop-b
invariant-loop-b l = utf8 l.s ≡ octets (drop l.b-index l.s) (ranges_of l.p)

-- What a record of one kind comes to, made of what its test told and, where that was passed, of what was written.
use Prim.Native.Nat.{ℕ}
use mathlib.Core.Path.{refl, sym}
use Rattle.std.specs.Prelude.{Ok, Err}
use Rattle.refusals.specs.declared.Refusal.{Refusal}
use Rattle.refusals.specs.Numbers.{number_of}
use Rattle.refusals.proofs.Tests.{no_answer}
use Rattle.writer.specs.declared.Writer.{Writer}
use Rattle.sheet_writer.specs.Turning.{ComesTo}

pub refused : (Tests : ℕ → Type 0) (Written : Type 0) (w : Writer) (r : Refusal) → Tests (number_of r) → ComesTo Tests Written w w (Err r)
refused Tests Written w r t = record { told = t; refused = λ q z. refl; written = λ z. absurd (no_answer z) }

pub written : (Tests : ℕ → Type 0) (Written : Type 0) (w v : Writer) → Tests 0 → Written → ComesTo Tests Written w v (Ok tt)
written Tests Written w v t p = record { told = t; refused = λ q z. absurd (no_answer (sym z)); written = λ z. p }

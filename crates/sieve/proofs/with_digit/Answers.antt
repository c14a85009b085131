use Rattle.std.proofs.Common.{ℕ, ◌%◌, ap, arith, eqb, w64}
use Rattle.std.proofs.lemmas.Nat.Bits.{bit_at_set_same, bit_at_set_other}
use borrow.Author.Tests.{eq-eqb}
use Rattle.sieve.specs.Digits.{digit}
use Rattle.sieve.proofs.with_digit.Goals as goal

pub returns : goal.returns
unfolding digit
returns c = record {
  own = eq-eqb _ 1 (bit_at_set_same w64 c.args.word (c.args.x % 64) (omega arith));
  others = λ y n. ap (λ (d : ℕ). eqb d 1) (bit_at_set_other w64 c.args.word (c.args.x % 64) (omega arith) (y % 64) n);
}

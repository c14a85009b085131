-- "others may reorder literals inside a held clause": under a weight that ignores order nothing changes. Assumes nothing.
use mathlib.Core.Path.{◌≡◌, refl, sym, ◌∙◌, subst}
use mathlib.Core.Bool.{true, false}
use mathlib.Core.List.{List, [], Permᴰ}
use Prim.Native.Nat.{ℕ, ◌+◌}
use native.Mathlib.Omega.{arith}
use native.Mathlib.Nat.{add-zero}
use lib.ListN.{length}
use lib.Seq.{sets, length-sets}
use Rattle.laws.specs.Lists.{elem, read_n}
use Rattle.laws.proofs.Writing.{sets_below, sets_above, read_n_sets, read_n_all, length_read_n, perm_length}
use Rattle.kinds.specs.Clauses.{Clause, head_at, len_at, lits_at, end_at, deleted_at, original_at}
use Rattle.kinds.specs.Held.{Held, with_words}
use Rattle.account.specs.Weights.{total, Blind, weigh, Chained}
use Rattle.account.proofs.Chains.{Only, weigh_live}
use Rattle.account.proofs.Moves.{Moves, all_split, quiet}
use Rattle.account.proofs.Striking.{at_fits, at_chain, at_total}

module _ (w : Clause → ℕ) (blind : Blind w) (asg : List ℕ) (s : Held) (c : Chained s) (o : ℕ) (listed : elem o s.clauses ≡ true) (new : List ℕ) (live : deleted_at s.words o ≡ false)
    (perm : Permᴰ (lits_at s.words o) new) where
  abbrev ws : List ℕ
  ws = s.words

  abbrev vs : List ℕ
  vs = sets ws (o + 3) new

  size : length new ≡ len_at ws o
  size = sym (perm_length perm) ∙ length_read_n ws (o + 3) (len_at ws o)

  only : Only o (end_at ws o) ws vs
  only = record {
    size = length-sets ws (o + 3) new;
    below = λ i h. sym (sets_below ws (o + 3) new i (omega arith));
    above = λ i h. sym (sets_above ws (o + 3) new i (omega (arith, size)));
  }

  len : len_at vs o ≡ len_at ws o
  len = sets_below ws (o + 3) new (o + 2) (omega arith)

  head : head_at vs o ≡ head_at ws o
  head = sets_below ws (o + 3) new (o + 1) (omega arith)

  lits : lits_at vs o ≡ new
  lits = rw (len, ← size) (subst (λ (x : ℕ). read_n vs x (length new) ≡ new) (add-zero (o + 3)) (read_n_sets ws (o + 3) new 0 (length new) (omega arith) (omega (arith, size, at_fits w s c o listed, c.room)) ∙ read_n_all new))

  pub reorder_moves : Moves w asg [] s (with_words vs s)
  unfolding total
  reorder_moves =
      let k = at_total w s c o listed vs only in
      let g = weigh_live w ws o live in
      let h : weigh w vs o ≡ w (record { original = original_at ws o; lits = new }) = weigh_live w vs o (rw head live) ∙ rw (head, lits) in
      let b = blind (original_at ws o) (lits_at ws o) new perm in
      quiet w asg [] s (with_words vs s) (record { chain = at_chain w s c o listed vs only (rw len (omega arith)); room = rw length-sets c.room }) refl
      (rw (all_split w s, all_split w (with_words vs s)) (omega arith))

-- Simplifying reads and changes neither the tier lists nor anything of the host's side but the values. Assumes nothing.
use mathlib.Core.Path.{◌≡◌, refl, sym, ap, ◌∙◌}
use mathlib.Core.Bool.{Bool, true, false, cond}
use mathlib.Core.List.{List, [], ◌∷◌, ◌++◌}
use Prim.Native.Nat.{ℕ, ◌+◌, ◌/◌}
use lib.ListN.{length}
use lib.Seq.{sets}
use lib.Dec.{eqb}
use Rattle.laws.specs.Fold.{fold_list}
use Rattle.laws.specs.Lists.{at, joined}
use Rattle.kinds.specs.Clauses.{deleted_at, lits_at}
use Rattle.kinds.specs.Lines.{flat}
use Rattle.kinds.specs.Held.{Held, Side, with_tiers, with_host, with_clauses, with_rows, with_binary, with_rec}
use Rattle.calls.specs.Adding.{pair_pushed}
use Rattle.calls.specs.Simplifying.{any_true, unfalsified, rows_cleaned, rows_strikes, binaries_cleaned, clause_done, simplified}
use Rattle.simplify_lines.specs.Walk.{longs_done}
use Rattle.simplify_lines.proofs.Done.{gone, stays, short_lines_lem, strike_line, sim_one, one_is}

abbrev pub recast : List (List ℕ) → Side → Held → Held
recast t s h = with_tiers t (with_host s h)

one_recast : (t : List (List ℕ)) (s : Side) (a : List ℕ) (o : ℕ) (h : Held) → sim_one a o (recast t s h) ≡ recast t s (sim_one a o h)
unfolding sim_one
one_recast t s a o h = let ls = lits_at h.words o in go (unfalsified a ls) (deleted_at h.words o) (any_true a ls) (eqb (length (unfalsified a ls)) (length ls)) (eqb (length (unfalsified a ls)) 2)
  where
    go : (r : List ℕ) (b u e w : Bool)
        → cond b (recast t s h) (cond u (gone o (strike_line 5 o h.words) h.rows h.binary (recast t s h)) (cond e (stays o [] h.words (recast t s h))
        (cond w (gone o (short_lines_lem r o h.words) (pair_pushed (at r 0) (at r 1) h.rows) (h.binary + 1) (recast t s h)) (stays o (short_lines_lem r o h.words) (sets h.words (o + 2) (length r ∷ r)) (recast t s h)))))
        ≡ recast t s (cond b h (cond u (gone o (strike_line 5 o h.words) h.rows h.binary h) (cond e (stays o [] h.words h)
        (cond w (gone o (short_lines_lem r o h.words) (pair_pushed (at r 0) (at r 1) h.rows) (h.binary + 1) h) (stays o (short_lines_lem r o h.words) (sets h.words (o + 2) (length r ∷ r)) h)))))
    go r true u e w = refl
    go r false true e w = refl
    go r false false true w = refl
    go r false false false true = refl
    go r false false false false = refl

one_host : (a : List ℕ) (o : ℕ) (h : Held) → (sim_one a o h).host ≡ h.host
unfolding sim_one
one_host a o h = let ls = lits_at h.words o in go (unfalsified a ls) (deleted_at h.words o) (any_true a ls) (eqb (length (unfalsified a ls)) (length ls)) (eqb (length (unfalsified a ls)) 2)
  where
    go : (r : List ℕ) (b u e w : Bool)
        → (cond b h (cond u (gone o (strike_line 5 o h.words) h.rows h.binary h) (cond e (stays o [] h.words h)
        (cond w (gone o (short_lines_lem r o h.words) (pair_pushed (at r 0) (at r 1) h.rows) (h.binary + 1) h) (stays o (short_lines_lem r o h.words) (sets h.words (o + 2) (length r ∷ r)) h))))).host ≡ h.host
    go r true u e w = refl
    go r false true e w = refl
    go r false false true w = refl
    go r false false false true = refl
    go r false false false false = refl

fold_recast : (t : List (List ℕ)) (s : Side) (os : List ℕ) (h : Held) → s.values ≡ h.host.values → fold_list clause_done (recast t s h) os ≡ recast t s (fold_list clause_done h os)
unfolding fold_list
fold_recast t s [] h e = refl
fold_recast t s (o ∷ os) h e =
    ap (λ (x : Held). fold_list clause_done x os) (one_is (recast t s h) o ∙ ap (λ (a : List ℕ). sim_one a o (recast t s h)) e ∙ one_recast t s h.host.values o h ∙ ap (recast t s) (sym (one_is h o)))
    ∙ fold_recast t s os (clause_done h o) (e ∙ sym (ap (λ (x : Side). x.values) (ap (λ (x : Held). x.host) (one_is h o) ∙ one_host h.host.values o h)))

pub clean_recast : (t : List (List ℕ)) (s : Side) (h : Held) → s.values ≡ h.host.values → binaries_cleaned (recast t s h) ≡ recast t s (binaries_cleaned h)
unfolding binaries_cleaned
clean_recast t s h e =
    ap (λ (a : List ℕ). with_rows (rows_cleaned a 0 h.rows) (with_binary (length (joined (rows_cleaned a 0 h.rows)) / 2) (with_rec (h.rec ++ flat (rows_strikes a 0 h.rows)) (recast t s h)))) e

pub simplified_recast : (t : List (List ℕ)) (s : Side) (h : Held) → s.values ≡ h.host.values → simplified (recast t s h) ≡ recast t s (simplified h)
unfolding simplified
simplified_recast t s h e =
    ap (λ (x : Held). fold_list clause_done (with_clauses [] x) h.clauses) (clean_recast t s h e)
    ∙ fold_recast t s h.clauses (with_clauses [] (binaries_cleaned h)) (e ∙ sym (same h))
  where
    same : (h : Held) → (binaries_cleaned h).host.values ≡ h.host.values
    same h = unfold binaries_cleaned in refl

pub simplified_long : (h : Held) → simplified h ≡ longs_done (binaries_cleaned h)
unfolding simplified longs_done binaries_cleaned
simplified_long h = refl

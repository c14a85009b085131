-- What follows from passing preserved: any call, accepted or refused, leaves what passes, and what passes is refused neither 1 nor 2 nor 3. Assumes nothing.
use mathlib.Core.Path.{◌≡◌, refl, sym, ap, subst}
use mathlib.Core.Bool.{Bool, true, false, cond, ◌&&◌}
use lib.Dec.{eqb}
use borrow.Author.Tests.{eqb-true}
use Rattle.laws.proofs.Folds.{and_both, and_left, and_right}
use Rattle.kinds.specs.Lent.{Lent, Parts}
use Rattle.kinds.specs.Layout.{view, lay, lent_then}
use Rattle.calls.specs.Call.{Command, parts, everything}
use Rattle.calls.specs.Size.{vars_in_range, words_sized, tiers_sized, rows_sized, record_sized, levels_sized, sizes_ok}
use Rattle.calls.specs.StorePasses.{words_pass, tiers_ok, rows_pass, store_passes}
use Rattle.calls.specs.HostPasses.{levels_in_range, side_passes, host_passes}
use Rattle.calls.specs.Outcome.{Outcome, step, answer, judged, number, accepted, refused, done}
use Rattle.calls.proofs.Judged.{all_judged}
use Rattle.demands.specs.Demands.{whole_passes, TypedCall, Kept}
use Rattle.passing.proofs.Preserved.{passing_preserved}

-- ---- any call

refused_then : (c : Command) (k : Lent) → eqb (number c k) 0 ≡ false → (done c k).then ≡ k
unfolding done
refused_then c k e = ap (λ (b : Bool). (cond {A = Outcome} b (accepted (answer c (view k)) (lay (parts c) k (step c (view k)))) (refused (number c k) k)).then) e

pub always_kept : (c : Command) (k : Lent) → TypedCall c → Kept k → Kept (done c k).then
always_kept c k y K = go (eqb (number c k) 0) refl
  where
    go : (b : Bool) → eqb (number c k) 0 ≡ b → Kept (done c k).then
    go true e = passing_preserved c k y K (eqb-true (number c k) 0 e)
    go false e = subst (λ (x : Lent). Kept x) (sym (refused_then c k e)) K

-- ---- what passes is judged fit for every call

lent_any : (p b : Bool) → b ≡ true → lent_then p b ≡ true
lent_any true b e = e
lent_any false b e = refl

module _ (k : Lent) (K : Kept k) (p : Parts) where
  sizes : sizes_ok everything k ≡ true
  unfolding whole_passes
  sizes = and_left _ _ K.passes

  store : store_passes everything (view k) ≡ true
  unfolding whole_passes
  store = and_left _ _ (and_right (sizes_ok everything k) _ K.passes)

  host : host_passes everything (view k) ≡ true
  unfolding whole_passes
  host = and_right (store_passes everything (view k)) _ (and_right (sizes_ok everything k) _ K.passes)

  sizes_any : sizes_ok p k ≡ true
  unfolding sizes_ok
  sizes_any =
      let a = and_right (vars_in_range k.state.vars) _ sizes in
      let b = and_right (words_sized k) _ a in
      let c = and_right (tiers_sized k) _ b in
      let d = and_right (rows_sized k) _ c in
      let e = and_right (record_sized k) _ d in
      and_both _ _ (lent_any p.vars _ (and_left _ _ sizes)) (and_both _ _ (lent_any p.words _ (and_left _ _ a)) (and_both _ _ (lent_any p.tiers _ (and_left _ _ b)) (and_both _ _ (lent_any p.rows _ (and_left _ _ c))
      (and_both _ _ (lent_any p.rec _ (and_left _ _ d)) (and_both _ _ (lent_any p.levels _ (and_left _ _ e)) (lent_any p.host _ (and_right (levels_sized k.state.vars k.host) _ e)))))))

  store_any : store_passes p (view k) ≡ true
  unfolding store_passes
  store_any =
      let a = and_right (words_pass (view k)) _ store in
      let b = and_right (tiers_ok (view k)) _ a in
      and_both _ _ (lent_any p.words _ (and_left _ _ store)) (and_both _ _ (lent_any (p.words && p.tiers) _ (and_left _ _ a)) (and_both _ _ (lent_any p.rows _ (and_left _ _ b)) (lent_any p.state _ (and_right (rows_pass (view k)) _ b))))

  host_any : host_passes p (view k) ≡ true
  unfolding host_passes
  host_any =
      let a = and_right (levels_in_range (view k).vars (view k).host) _ host in
      and_both _ _ (lent_any p.levels _ (and_left _ _ host)) (and_both _ _ (lent_any p.host _ (and_left _ _ a)) (lent_any (p.host && p.words) _ (and_right (side_passes (view k).vars (view k).host) _ a)))

  pub kept_judged : judged p k ≡ 0
  kept_judged = sym (all_judged p k sizes_any store_any host_any)

-- Refusal 11 of reducing locals, by the tallies. Assumes nothing.
use mathlib.Core.Path.{◌≡◌, refl, sym, ap, ◌∙◌, subst}
use mathlib.Core.Bool.{Bool, true, false, cond, ◌&&◌}
use mathlib.Core.List.{List, []}
use Prim.Native.Nat.{ℕ, zero, suc, ◌+◌, ◌-◌, ◌*◌, ◌/◌, ◌^◌, ◌≤◌, ◌<◌}
use native.Mathlib.Omega.{arith}
use lib.ListN.{length, take, set, length-set}
use lib.Seq.{length-take-le, get_or-take, get_or-set_same, get_or-set_other}
use lib.Dec.{ltb}
use borrow.Author.Tests.{le-leb, lt-ltb}
use Rattle.laws.specs.Fold.{fold_list, one, count_below, sum_below}
use Rattle.laws.specs.Lists.{at, list_at, take_each, sort_by}
use Rattle.laws.proofs.Folds.{and_both, all_of}
use Rattle.laws.proofs.Sums.{count_same, sum_same}
use Rattle.laws.proofs.Sorting.{sorted_sort}
use Rattle.laws.proofs.Tests.{and_true}
use Rattle.laws.proofs.SortLengths.{length_sort}
use Rattle.laws.proofs.Members.{In, sum_list, sum_each}
use Rattle.laws.proofs.Entries.{elem_index}
use Rattle.kinds.specs.Clauses.{len_at}
use Rattle.kinds.specs.Lent.{Lent, Host, lent}
use Rattle.kinds.specs.Layout.{view, side, fit, fit_tier}
use Rattle.kinds.specs.declared.State.{State}
use Rattle.calls.specs.Call.{reduce_locals, parts, five_lists_record_host}
use Rattle.calls.specs.Reducing.{kept_first, cleaned_tier, tier_emptied, sort_key, sorted_locals, local_done, to_strike, locals_round, locals_reduced}
use Rattle.calls.specs.Refusing.{own, lowest}
use Rattle.calls.specs.Outcome.{judged, refused_for, has_room, step, own_number}
use Rattle.calls.proofs.Judged.{HostSized, sizes_judged, store_judged, words_sized_lem, clauses_sized, tier_sized_lem, record_sized_lem, host_sized_lem, levels_long, record_fits}
use Rattle.calls.proofs.Readings.{words_pass_lem, tiers_pass}
use Rattle.calls.proofs.Unchanged.{tiers_within}
use Rattle.passing.proofs.Store.{Store, chain_in}
use Rattle.passing.proofs.Good.{Quiet}
use Rattle.passing.proofs.Tests.{quiet_read}
use Rattle.reduce_steps.proofs.Fours.{used_part}
use Rattle.reduce_steps.proofs.Cleaned.{live_ends, live_first}
use Rattle.reduce_steps.proofs.Passing.{store_lent}
use Rattle.reduce_refusals.specs.Counted.{goer, goes, goes_at, line_at, ClauseIn, ClausesIn, Rising}
use Rattle.reduce_refusals.proofs.MidsRoom.{tier_few}
use Rattle.reduce_refusals.proofs.Lines.{lines, lines_most, lines_all, lines_below}
use Rattle.reduce_refusals.proofs.LocalsRoom.{line_size, LocalsMade, locals_made}
use Rattle.reduce_refusals.proofs.LocalsSums.{os_ready, os_distinct, all_locals, counted, measured, rising}

-- a bound above every key of a live clause
abbrev pub top : ℕ
top = 9223372036854775808

pub record LocalsSized (s : State) (words clauses rec : List ℕ) (host : Host) : Type 0 where
  pub words_most : length words ≤ 2 ^ 24
  pub listed : s.clauses ≤ length clauses
  pub clauses_most : s.clauses ≤ 2 ^ 22
  pub rec_used : s.recorded ≤ length rec
  pub sides : HostSized s.vars host
  pub levels : length host.levels ≡ s.vars

module _ (s : State) (words clauses irred core mid local rec : List ℕ) (host : Host) (four : length s.tiers ≡ 4) (counts : length s.counts ≡ 4)
    (j : judged five_lists_record_host (lent s words clauses irred core mid local [] [] rec host) ≡ 0) where
  abbrev k : Lent
  k = lent s words clauses irred core mid local [] [] rec host

  pub locals_sized : LocalsSized s words clauses rec host
  locals_sized =
      let z = sizes_judged five_lists_record_host k j in
      let l = clauses_sized five_lists_record_host k z refl in
      let a = l.used in
      let b = l.most in
      record {
        words_most = (words_sized_lem five_lists_record_host k z refl).most;
        listed = l.used;
        clauses_most = omega arith;
        rec_used = (record_sized_lem five_lists_record_host k z refl).used;
        sides = host_sized_lem five_lists_record_host k z refl;
        levels = levels_long five_lists_record_host k z refl;
      }

  abbrev l : List ℕ
  l = take s.clauses clauses

  store : Store s.vars words s.words l s.counts s.garbage (take_each s.tiers k.tiers) []
  unfolding view
  store = store_lent five_lists_record_host k refl four counts refl refl j

  quiet : Quiet words l
  unfolding view
  quiet = let p = store_judged five_lists_record_host k j in quiet_read (view k) (words_pass_lem five_lists_record_host (view k) p refl) (tiers_pass five_lists_record_host (view k) p refl)

  list_length : length l ≡ s.clauses
  list_length = length-take-le s.clauses clauses locals_sized.listed

  pub clauses_in : ClausesIn words s.vars clauses s.clauses
  clauses_in i b =
      let e : at l i ≡ at clauses i = get_or-take s.clauses clauses i 0 b in
      subst (λ (o : ℕ). ClauseIn words s.vars o) e (inside (at l i) (elem_index l i (let z = list_length in omega arith)))
    where
      inside : (o : ℕ) → In o l → ClauseIn words s.vars o
      inside o m =
          let a = (chain_in 0 s.words words l store.chain o m).1 in
          let r = store.room in
          record {
            within = omega arith;
            longer = λ d. let t = (store.clause o m d).three in omega arith;
            first = λ d. let f = live_first store o (m, d) in omega arith;
          }

  -- ---- the locals in their order, and the lines that are written

  abbrev os : List ℕ
  os = sort_by (sort_key words) (fold_list (kept_first words 3) [] (list_at (take_each s.tiers k.tiers) 3))

  abbrev half : ℕ
  half = at s.counts 3 / 2

  abbrev g : ℕ → Bool
  g = goer words host.values host.kinds host.reasons

  abbrev written : ℕ
  written = lines g (line_size words) (sort_key words) half os

  strikes : to_strike (view k) ≡ half
  unfolding to_strike sorted_locals cleaned_tier view
  strikes = ap (λ (n : ℕ). n / 2) (all_locals store locals_sized.words_most)

  made : LocalsMade (record { left = half; held = tier_emptied 3 (view k) }) (locals_round (view k)) os written
  unfolding locals_round sorted_locals cleaned_tier view side
  made = subst (λ (n : ℕ). LocalsMade (record { left = half; held = tier_emptied 3 (view k) }) (fold_list local_done (record { left = n; held = tier_emptied 3 (view k) }) os) os written) (sym strikes)
      (locals_made store (view k).host os (record { left = half; held = tier_emptied 3 (view k) }) (length-set (take_each s.tiers k.tiers) 3 [] ∙ store.four_lists_lem) (os_distinct store locals_sized.words_most) (os_ready store locals_sized.words_most) (λ x m i a b. refl) refl)

  record_made : length (locals_round (view k)).held.rec ≡ s.recorded + written
  unfolding view
  record_made = made.record_long ∙ ap (λ (n : ℕ). n + written) (length-take-le s.recorded rec locals_sized.rec_used)

  -- ---- the tallies

  abbrev count : ℕ → ℕ
  count b = count_below (goes_at words host.values host.kinds host.reasons b clauses) s.clauses

  abbrev size : ℕ → ℕ
  size b = sum_below (line_at words host.values host.kinds host.reasons b clauses) s.clauses

  count_is : (b : ℕ) → sum_list (λ (x : ℕ). one (g x && ltb (sort_key words x) b)) os ≡ count b
  unfolding view side goes_at
  count_is b =
      counted store locals_sized.words_most (view k).host b
      ∙ ap (count_below (goes_at words host.values host.kinds host.reasons b l)) list_length
      ∙ count_same (goes_at words host.values host.kinds host.reasons b l) (goes_at words host.values host.kinds host.reasons b clauses) s.clauses (λ i h. ap (goes words host.values host.kinds host.reasons b) (get_or-take s.clauses clauses i 0 h))

  size_is : (b : ℕ) → sum_list (λ (x : ℕ). one (g x && ltb (sort_key words x) b) * line_size words x) os ≡ size b
  unfolding view side line_at
  size_is b =
      measured store locals_sized.words_most (view k).host b
      ∙ ap (sum_below (line_at words host.values host.kinds host.reasons b l)) list_length
      ∙ sum_same (line_at words host.values host.kinds host.reasons b l) (line_at words host.values host.kinds host.reasons b clauses) s.clauses
      (λ i h. ap (λ (o : ℕ). one (goes words host.values host.kinds host.reasons b o) * (len_at words o + 2)) (get_or-take s.clauses clauses i 0 h))

  pub counts_rise : Rising words host.values host.kinds host.reasons clauses s.clauses
  unfolding view side
  counts_rise b =
      let r = rising store locals_sized.words_most (view k).host b in
      let x = counted store locals_sized.words_most (view k).host b in
      let y = counted store locals_sized.words_most (view k).host (b + 1) in
      let a = count_is b in
      let c = count_is (b + 1) in
      omega arith

  -- every key is below the top
  under_top : (x : ℕ) → In x os → ltb (sort_key words x) top ≡ true
  unfolding sort_key
  under_top x m =
      let r = os_ready store locals_sized.words_most x m in
      let a = quiet x r.0.0 r.0.1 in
      let e = live_ends store x r.0 in
      let w = locals_sized.words_most in
      lt-ltb (at words x * 2 ^ 32 + x) top (omega arith)

  all_count : sum_list (λ (x : ℕ). one (g x)) os ≡ count top
  all_count = sum_each (λ (x : ℕ). one (g x)) (λ (x : ℕ). one (g x && ltb (sort_key words x) top)) os (λ x m. ap one (sym (ap (λ (b : Bool). g x && b) (under_top x m) ∙ and_true (g x)))) ∙ count_is top

  all_size : sum_list (λ (x : ℕ). one (g x) * line_size words x) os ≡ size top
  all_size = sum_each (λ (x : ℕ). one (g x) * line_size words x) (λ (x : ℕ). one (g x && ltb (sort_key words x) top) * line_size words x) os (λ x m. ap (λ (b : Bool). one b * line_size words x) (sym (ap (λ (b : Bool). g x && b) (under_top x m) ∙ and_true (g x)))) ∙ size_is top

  written_most : written ≤ size top
  written_most = let a = lines_most g (line_size words) (sort_key words) half os in let b = all_size in omega arith

  written_all : count top ≤ half → written ≡ size top
  written_all h = lines_all g (line_size words) (sort_key words) half os (let a = all_count in omega arith) ∙ all_size

  written_below : (b : ℕ) → count b ≡ half → written ≡ size b
  written_below b h = lines_below g (line_size words) (sort_key words) b half os (sorted_sort (sort_key words) (fold_list (kept_first words 3) [] (list_at (take_each s.tiers k.tiers) 3))) (count_is b ∙ h) ∙ size_is b

  -- ---- the number

  same_made : (t : ℕ) → t < 4 → (t ≡ 3 → ⊥) → list_at (locals_reduced (view k)).tiers t ≡ list_at (set (view k).tiers 3 []) t → length (list_at (locals_reduced (view k)).tiers t) ≤ length (list_at k.tiers t)
  unfolding view
  same_made t h n e =
      let a = ap length (e ∙ get_or-set_other (take_each s.tiers k.tiers) 3 t [] [] n ∙ used_part s.tiers k.tiers (tiers_within five_lists_record_host k (sizes_judged five_lists_record_host k j) refl four refl) t h) in
      let u = (tier_sized_lem five_lists_record_host k (sizes_judged five_lists_record_host k j) refl t h).used in
      let b = length-take-le (at s.tiers t) (list_at k.tiers t) u in
      omega arith

  local_made : length (list_at (locals_reduced (view k)).tiers 3) ≤ length local
  unfolding view
  local_made =
      let a = made.local in
      let b = ap length (get_or-set_same (take_each s.tiers k.tiers) 3 [] [] (let z = store.four_lists_lem in omega arith)) in
      let c = tier_few words 3 (list_at (take_each s.tiers k.tiers) 3) in
      let n = length_sort (sort_key words) (fold_list (kept_first words 3) [] (list_at (take_each s.tiers k.tiers) 3)) in
      let d = ap length (used_part s.tiers k.tiers (tiers_within five_lists_record_host k (sizes_judged five_lists_record_host k j) refl four refl) 3 (omega arith)) in
      let u : at s.tiers 3 ≤ length local = (tier_sized_lem five_lists_record_host k (sizes_judged five_lists_record_host k j) refl 3 (omega arith)).used in
      let e = length-take-le (at s.tiers 3) local u in
      omega arith

  each_fits : (t : ℕ) → t < 4 → length (list_at (locals_reduced (view k)).tiers t) ≤ length (list_at k.tiers t)
  each_fits zero h = same_made 0 (omega arith) (λ q. omega arith) made.irred
  each_fits (suc zero) h = same_made 1 (omega arith) (λ q. omega arith) made.core
  each_fits (suc (suc zero)) h = same_made 2 (omega arith) (λ q. omega arith) made.mid
  each_fits (suc (suc (suc zero))) h = local_made
  each_fits (suc (suc (suc (suc t)))) h = absurd (omega arith)

  used_fits : (locals_reduced (view k)).used ≤ length words
  unfolding view
  used_fits = let a = made.used in let b = store.room in omega arith

  list_fits : length (locals_reduced (view k)).clauses ≤ length clauses
  unfolding view
  list_fits = let a = ap length made.clauses in let b = list_length in let c = locals_sized.listed in omega arith

  fits : s.recorded + written ≤ length rec → 0 ≡ own_number reduce_locals k
  unfolding own_number refused_for own lowest has_room step parts fit fit_tier
  fits h = sym (ap (λ (b : Bool). cond b 0 11)
      (and_both _ _
      (and_both _ _ (le-leb (locals_reduced (view k)).used (length words) used_fits) (le-leb (length (locals_reduced (view k)).clauses) (length clauses) list_fits))
      (and_both _ _ (all_of (fit_tier k (locals_reduced (view k))) 4 (λ t q. le-leb (length (list_at (locals_reduced (view k)).tiers t)) (length (list_at k.tiers t)) (each_fits t q)))
      (le-leb (length (locals_reduced (view k)).rec) (length rec) (let e = record_made in omega arith)))))

  lacks : length rec < s.recorded + written → 11 ≡ own_number reduce_locals k
  unfolding own_number refused_for own lowest has_room step parts
  lacks h = sym (ap (λ (b : Bool). cond b 0 11) (go (fit five_lists_record_host k (locals_reduced (view k))) refl))
    where
      go : (b : Bool) → fit five_lists_record_host k (locals_reduced (view k)) ≡ b → b ≡ false
      go true e = absurd (let a = record_fits five_lists_record_host k (locals_reduced (view k)) e refl in let c = record_made in omega arith)
      go false e = refl

  pub all_fit : size top ≤ length rec - s.recorded → 0 ≡ own_number reduce_locals k
  all_fit h = fits (let a = written_most in let b = locals_sized.rec_used in omega arith)

  pub all_lack : length rec - s.recorded < size top → count top ≤ half → 11 ≡ own_number reduce_locals k
  all_lack h c = lacks (let a = written_all c in let b = locals_sized.rec_used in omega arith)

  pub half_fit : (b : ℕ) → count b ≡ half → size b ≤ length rec - s.recorded → 0 ≡ own_number reduce_locals k
  half_fit b c h = fits (let a = written_below b c in let d = locals_sized.rec_used in omega arith)

  pub half_lack : (b : ℕ) → count b ≡ half → length rec - s.recorded < size b → 11 ≡ own_number reduce_locals k
  half_lack b c h = lacks (let a = written_below b c in let d = locals_sized.rec_used in omega arith)

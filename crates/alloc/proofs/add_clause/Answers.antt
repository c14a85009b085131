use Rattle.std.proofs.Common.{◌≡◌, List, ℕ, ap, length, set, ◌∙◌, ◌+◌, ◌∷◌}
use Rattle.std.proofs.lemmas.List.Edits.{sets}
use Rattle.laws.specs.Lists.{read_n}
use Rattle.laws.proofs.Reading.{read_whole, sets_three}
use Rattle.kinds.specs.Header.{new_head}
use Rattle.calls.specs.Adding.{new_words}
use Rattle.alloc.proofs.add_clause.Goals as goal

appended : (ws ws₁ : List ℕ) (used tier glue head : ℕ) (ls : List ℕ) → head ≡ new_head tier glue
    → ws₁ ≡ sets (set (set (set ws used 0) (used + 1) head) (used + 2) (length ls)) (used + 3) (read_n ls 0 (length ls))
    → ws₁ ≡ sets ws used (new_words tier glue ls)
appended ws ws₁ used tier glue head ls h e =
    sets_three ws ws₁ used 0 head (length ls) (read_n ls 0 (length ls)) e
    ∙ ap (λ (l : List ℕ). sets ws used (0 ∷ head ∷ length ls ∷ l)) (read_whole ls)
    ∙ ap (λ (x : ℕ). sets ws used (0 ∷ x ∷ length ls ∷ ls)) h

pub returns : goal.returns
returns c =
    let a = c.args in
    appended a.words.now _ a.used a.tier a.glue _ a.lits.now c.new_head.ensures c.copy.ensures

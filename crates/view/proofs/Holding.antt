-- What a `Clause` owns at a lifetime: the slice that it holds. Assumes nothing.
use mathlib.Core.Path.{◌≡◌}
use mathlib.Core.List.{[], ◌∷◌}
use lib.ListN.{length}
use seplogic.Ra.Ura.{Ura}
use mir.Syntax.{named}
use mir.Val.{Val}
use base.Logic.{ent, sep}
use base.Fml.{Lft, Fml}
use types.Logic.{Logic, sem}
use contract.Lifetimes.{Lfts}
use types.Kit.{‵, ◌⊛◌, given, ◌$◌, ◌∵◌, !, qed, move, drop, use1, split, learn, frame, done}
use denote.RattleType.{RattleType}
use denote.Builtin.{u32}
use denote.Signature.{named_lft}
use denote.Slice.{slice_val, ShrSlice}
use denote.Struct.Declared.{Declared}
use denote.Struct.Laws as LL
use denote.Struct.Rest.{all_own, field_own, rest, own_open, own_out}
use denote.Struct.Values.{Values}
use Rattle.view.specs.declared.Clause.{Clause}
use Rattle.view.specs.contracts.Clause as T
use Rattle.view.proofs.Clause.TheLaws as T'

-- the struct's type, over the signature's lifetimes
abbrev pub B : Lfts 1 → RattleType
B κs = T.the_row (named_lft 1 0 tt κs)

-- its type and laws at a lifetime
abbrev pub D : Lft → Declared
D κ = T.the_type (named_lft 1 0 tt (κ, tt))

abbrev pub L : (κ : Lft) → LL.Laws (D κ)
L κ = T'.the_laws (named_lft 1 0 tt (κ, tt))

-- the machine values of the struct and of the slice
abbrev pub mach : Clause → Val
mach d = T'.lowered d

abbrev pub sliced : Clause → Val
sliced d = slice_val d.words.ref_ptr (length d.words.now)

-- what each owns
abbrev pub Own : Lft → Clause → Fml
Own κ d = (B (κ, tt)).own_val d (mach d ∷ [])

abbrev pub OwnSlice : Lft → Clause → Fml
OwnSlice κ d = (ShrSlice (named 0) κ u32).own_val d.words (sliced d ∷ [])

-- the struct is Copy: what it owns is had twice, one copy is kept whole, and of the other what the slice owns is taken
module _ {M : Type 1} {𝓤 : Ura M} (𝓛 : Logic 𝓤) (κ : Lft) (d : Clause) where
  abbrev vd : Values (D κ).parts
  vd = (d.words, tt)

  pub holds : ent 𝓤 (sem 𝓛 (Own κ d)) (sep 𝓤 (sem 𝓛 (OwnSlice κ d)) (sem 𝓛 (Own κ d)))
  holds =
      qed 𝓛 (‵ (Own κ d) ∷ []) ∵ use1 𝓛 (‵ (Own κ d) ⊛ ‵ (Own κ d)) ((LL.copy (D κ) (T'.the_copy (named_lft 1 0 tt (κ, tt))) 𝓛).twice d (mach d ∷ [])) $ split ! $
      use1 𝓛 (given (mach d ∷ [] ≡ mach d ∷ []) (‵ (all_own (D κ).parts (L κ) vd))) (own_open 𝓛 (D κ) (L κ) vd (mach d)) $ learn ! (λ _. use1 𝓛 (‵ (field_own (D κ).parts (L κ) 0 d.words) ⊛ ‵ (rest (D κ).parts (L κ) 0 vd)) (own_out 𝓛 (D κ).parts (L κ) 0 vd) $ split ! $
      -- [what the slice owns; nothing else; what the struct owns]
      move ! (1 ∷ []) $ drop ! $ frame ! $ done !)

-- What follows of a change, step after step; and the registers, where one source alone was opened.
use Rattle.std.{proofs.Common.{◌≡◌, ℕ, List, [], ◌∷◌, ap, refl, sym, ◌∙◌}}
use Rattle.pim_types.{specs.{Keys.source_key, declared.fact.Key.Key}}
use Rattle.pim_model.{specs.{Messages.Message, Registers.settle_register, State.State}}
use Rattle.pim_state.{specs.{Turns.{Taking, saying}, declared.touched.Touched.Touched}, proofs.Said.said_both}
use Rattle.pim_views.{specs.declared.opening.{GroupOpening.GroupOpening, SourceOpening.SourceOpening}}
use Rattle.pim_register.{specs.Settling.{opened_source_keys, registers_by}}
use Rattle.pim_asserts.{specs.Opened.clear_by}
use Rattle.pim_upstream.{specs.Told.upstream_by}
use Rattle.pim_fanout.{specs.{Before.IsBefore, Named.named_among, declared.before.SourceBefore.SourceBefore}}
use Rattle.pim_settling.{specs.Settling.{AreNamed, cleared_by, followed_by}}

registers_alone : (s : State) (x : GroupOpening) (o : SourceOpening) → x.sources ≡ o ∷ []
    → registers_by (x ∷ []) s ≡ settle_register s (source_key 0 x.group.bits o.source.bits)
unfolding registers_by opened_source_keys settle_register
registers_alone s x o alone = rw alone refl

-- the register of the one source is settled
pub registered_alone : (s u : State) (x : GroupOpening) (o : SourceOpening) (g src : ℕ) → x.sources ≡ o ∷ []
    → g ≡ x.group.bits → src ≡ o.source.bits → u ≡ settle_register s (source_key 0 g src) → u ≡ registers_by (x ∷ []) s
registered_alone s u x o g src alone group source is =
    is ∙ ap (λ (n : ℕ). settle_register s (source_key 0 n src)) group
    ∙ ap (λ (n : ℕ). settle_register s (source_key 0 x.group.bits n)) source ∙ sym (registers_alone s x o alone)

-- registers, then what must go, then what is told
module _ (opening : List GroupOpening) (s u v : State) (t z : Taking) (registered : u ≡ registers_by opening s)
    (left : v ≡ (clear_by opening u).0) (said : z ≡ saying t (clear_by opening u).1) where
  abbrev cleared : State × List Message
  cleared = clear_by opening (registers_by opening s)

  drawn : z.draw ≡ t.draw
  drawn = ap (λ (y : Taking). y.draw) said

  left_so : v ≡ cleared.0
  left_so = left ∙ ap (λ (a : State). (clear_by opening a).0) registered

  pub followed_state : (upstream_by opening v z.draw).0 ≡ (followed_by opening s t.draw).0
  unfolding followed_by cleared_by
  followed_state =
      ap (λ (d : ℕ). (upstream_by opening v d).0) drawn
      ∙ ap (λ (a : State). (upstream_by opening a t.draw).0) left_so

  pub followed_messages : saying z (upstream_by opening v z.draw).1 ≡ saying t (followed_by opening s t.draw).1
  unfolding followed_by cleared_by
  followed_messages =
      ap (λ (d : ℕ). saying z (upstream_by opening v d).1) drawn
      ∙ ap (λ (a : State). saying z (upstream_by opening a t.draw).1) left_so
      ∙ ap (λ (y : Taking). saying y (upstream_by opening cleared.0 t.draw).1)
      (said ∙ ap (λ (a : State). saying t (clear_by opening a).1) registered)
      ∙ said_both t cleared.1 (upstream_by opening cleared.0 t.draw).1

  pub named_there : (before : List SourceBefore) (names : List Key)
      → ((o : State) (touched : Touched) → IsBefore o touched before → names ≡ named_among o v touched)
      → AreNamed before (cleared_by opening s).0 names
  unfolding cleared_by
  named_there before names named o touched is =
      named o touched is ∙ ap (λ (x : State). named_among o x touched) left_so

-- what must go, then what is told
module _ (opening : List GroupOpening) (s v : State) (t z : Taking) (left : v ≡ (cleared_by opening s).0)
    (said : z ≡ saying t (cleared_by opening s).1) where
  told_state : (upstream_by opening v z.draw).0 ≡ (followed_by opening s t.draw).0
  unfolding followed_by
  told_state =
      ap (λ (d : ℕ). (upstream_by opening v d).0) (ap (λ (y : Taking). y.draw) said)
      ∙ ap (λ (a : State). (upstream_by opening a t.draw).0) left

  told_messages : saying z (upstream_by opening v z.draw).1 ≡ saying t (followed_by opening s t.draw).1
  unfolding followed_by
  told_messages =
      ap (λ (d : ℕ). saying z (upstream_by opening v d).1) (ap (λ (y : Taking). y.draw) said)
      ∙ ap (λ (a : State). saying z (upstream_by opening a t.draw).1) left
      ∙ ap (λ (y : Taking). saying y (upstream_by opening (cleared_by opening s).0 t.draw).1) said
      ∙ said_both t (cleared_by opening s).1 (upstream_by opening (cleared_by opening s).0 t.draw).1

  -- by what was gathered of the one group
  pub seen_state : (xs : List GroupOpening) → xs ≡ opening
      → (upstream_by xs v z.draw).0 ≡ (followed_by opening s t.draw).0
  seen_state xs is = ap (λ (os : List GroupOpening). (upstream_by os v z.draw).0) is ∙ told_state

  pub seen_messages : (xs : List GroupOpening) → xs ≡ opening
      → saying z (upstream_by xs v z.draw).1 ≡ saying t (followed_by opening s t.draw).1
  seen_messages xs is = ap (λ (os : List GroupOpening). saying z (upstream_by os v z.draw).1) is ∙ told_messages

  pub seen_named : (before : List SourceBefore) (names : List Key)
      → ((o : State) (touched : Touched) → IsBefore o touched before → names ≡ named_among o v touched)
      → AreNamed before (cleared_by opening s).0 names
  seen_named before names named o touched is =
      named o touched is ∙ ap (λ (x : State). named_among o x touched) left

-- After settling no fact must go, and what is quiet stays quiet where all keys agree.
use Rattle.std.{proofs.Common.{◌≡◌, ◌&&◌, ℕ, Bool, true, false, not, cond, List, [], ◌∷◌, map, Option, Some, None, option_map, refl, sym, ap, ◌∙◌, arith}, specs.{List.{filter, find, list_all}, Option.option_or}}
use Rattle.pim_types.{specs.{declared.fact.{AssertRow.AssertRow, InterfaceRow.InterfaceRow, Key.Key}, Keys.{group_in, source_in}}}
use Rattle.pim_model.{specs.{Clearing.{Cleared, assert_must_go, assert_to_clear, clear, first_by, is_assert_first, spt_must_go, spt_to_clear, to_clear}, Firing.settled, Messages.Message, Registers.{could_register, settle_registers}, State.{State, interfaces_of}, Tables.{Table, has_row, same_bool}, Upstream.{TimerChange, moved_join_timer, moved_override_timer, upstream}, Writing.{all_written, hellos_paid, write_all}}}
use Rattle.law_settled.{proofs.{ListLaws.{all_more, nothing_first}, SettlingLaws.{kept_by_telling, kept_by_writing}, ClearingLaws.nothing_to_clear}}
use Rattle.law_events.{specs.{Locality.{AgreesBut, IsClear, touching, IsQuiet, is_register_settled}, Scopes.{only_up, reads, scope}}, proofs.{Asserts.{could_register_here, reads_itself, must_go_now_local, spt_must_go_local}, Clearing.all_agreed, Registers.has_registered, SourceMacros.{cut_kept, cut_register}, StarMacros.cut_assert, Touches.{agrees_same, agrees_then}, UntoldKeys.same_by_scope}}

-- ---- quiet stays quiet

module _ (s t : State) (agree : AgreesBut (touching []) s t) where
  pub clear_goes_on : IsClear s → IsClear t
  unfolding scope touching assert_must_go
  clear_goes_on quiet = record {
    asserts = all_agreed (touching []) cut_assert (λ e. not (assert_must_go s s e)) (λ e. not (assert_must_go t t e))
        (λ e. refl)
        (λ e f h. ap not (sym (same_by_scope e.0 (λ x. assert_must_go x x e) (λ x. must_go_now_local x e) s t
        (agree e.0 f))) ∙ h)
        s.asserts t.asserts (λ k e. ap (λ (x : State). x.asserts) (agree k e)) quiet.asserts;
    sources = all_agreed (touching []) cut_kept (λ e. not (spt_must_go s e)) (λ e. not (spt_must_go t e)) (λ e. refl)
        (λ e f h. ap not (sym (same_by_scope e.0 (λ x. spt_must_go x e) (λ x. spt_must_go_local x e) s t (agree e.0 f)))
        ∙ h)
        s.sources t.sources (λ k e. ap (λ (x : State). x.sources) (agree k e)) quiet.sources;
  }

  settled_same : (k : Key) → touching [] k ≡ false → is_register_settled s k ≡ is_register_settled t k
  unfolding scope
  settled_same k f = λ j.
      same_bool
      (same_by_scope k (λ x. could_register x (group_in k) (source_in k)) (λ x. could_register_here k x) s t (agree k f)
      j)
      ((sym (has_registered k (reads k) (reads_itself k) s.registers)
      ∙ (ap (λ (x : State). has_row x.registers k) (agree k f) ∙ has_registered k (reads k) (reads_itself k)
      t.registers)) j)

  pub quiet_goes_on : IsQuiet s → IsQuiet t
  unfolding scope touching
  quiet_goes_on quiet = record {
    clear = clear_goes_on quiet.clear;
    sources_settled = all_agreed (touching []) cut_kept (λ e. is_register_settled s e.0)
        (λ e. is_register_settled t e.0) (λ e. refl) (λ e f h. sym (settled_same e.0 f) ∙ h)
        s.sources t.sources (λ k e. ap (λ (x : State). x.sources) (agree k e)) quiet.sources_settled;
    registers_settled = all_agreed (touching []) cut_register (λ e. is_register_settled s e.0)
        (λ e. is_register_settled t e.0) (λ e. refl) (λ e f h. sym (settled_same e.0 f) ∙ h)
        s.registers t.registers (λ k e. ap (λ (x : State). x.registers) (agree k e)) quiet.registers_settled;
  }

-- ---- what is sent upstream, and the packets, change no group

frame_join : (s : State) (k : Key) (change : TimerChange) → AgreesBut (touching []) s (moved_join_timer s k change)
unfolding moved_join_timer scope
frame_join s k change h e = refl

frame_override : (s : State) (k : Key) (change : TimerChange)
    → AgreesBut (touching []) s (moved_override_timer s k change)
unfolding moved_override_timer scope
frame_override s k change h e = refl

pub frame_upstream : (o a : State) (w : ℕ) → AgreesBut (touching []) a (upstream o a w).0
frame_upstream o a w =
    kept_by_telling (λ n. Unit {0}) a w (λ d some. tt) (AgreesBut (touching []) a)
    (λ s k change fair f. agrees_then (touching []) a s _ f (frame_join s k change))
    (λ s k change fair f. agrees_then (touching []) a s _ f (frame_override s k change)) o (agrees_same (touching []) a)

paid_rows : (i : ℕ) (rows : Table InterfaceRow) → map only_up (hellos_paid i rows) ≡ map only_up rows
unfolding hellos_paid
paid_rows i [] = refl
paid_rows i (x ∷ xs) = grind (arith, paid_rows i xs)

pub frame_packets : (s : State) (ms : List Message) → AgreesBut (touching []) s (write_all s ms).0
unfolding write_all scope
frame_packets s ms h e =
    let same : map only_up ((all_written (interfaces_of s) ms).0).rows ≡ map only_up s.interfaces =
    kept_by_writing (λ t. map only_up t ≡ map only_up s.interfaces) (λ i t f. paid_rows i t ∙ f) (interfaces_of s) ms
    refl in
    sym (λ j. record (scope (reads h) s) { interfaces = same j })

-- ---- after clearing no fact must go

none_of : {X Y : Type 0} (f : X → Y) (o : Option X) → option_map f o ≡ None → o ≡ None
none_of f o e = grind arith

module _ {X : Type 0} (p : X → Bool) where
  empty_step : (x : X) (xs : List X) (b : Bool) → p x ≡ b → cond b (x ∷ filter p xs) (filter p xs) ≡ []
      → (filter p xs ≡ [] → list_all (λ y. not (p y)) xs ≡ true)
      → (not (p x) && list_all (λ y. not (p y)) xs) ≡ true
  empty_step x xs b f e ih = grind arith

  none_pass : (xs : List X) → filter p xs ≡ [] → list_all (λ y. not (p y)) xs ≡ true
  none_pass [] e = refl
  none_pass (x ∷ xs) e = empty_step x xs (p x) refl e (none_pass xs)

  find_step : (x : X) (xs : List X) (b : Bool) → p x ≡ b → cond b (Some x) (find p xs) ≡ None
      → (find p xs ≡ None → list_all (λ y. not (p y)) xs ≡ true)
      → (not (p x) && list_all (λ y. not (p y)) xs) ≡ true
  find_step x xs b f e ih = grind arith

  none_found : (xs : List X) → find p xs ≡ None → list_all (λ y. not (p y)) xs ≡ true
  none_found [] e = refl
  none_found (x ∷ xs) e = find_step x xs (p x) refl e (none_found xs)

neither : (a b : Option Cleared) → option_or a b ≡ None → (a ≡ None) × (b ≡ None)
neither a b e = grind arith

-- the route of the opening is no matter where it is that of now
fewer_must_go : (o a : State) (e : Key × AssertRow) → not (assert_must_go o a e) ≡ true
    → not (assert_must_go a a e) ≡ true
unfolding assert_must_go
fewer_must_go o a e f = grind arith

pub cleared_is_clear : (o s : State) → to_clear o s ≡ None → IsClear s
unfolding to_clear assert_to_clear spt_to_clear
cleared_is_clear o s e =
    let both : (assert_to_clear o s ≡ None) × (spt_to_clear s ≡ None) =
    neither (assert_to_clear o s) (spt_to_clear s) e in
    record {
      asserts =
          all_more (λ e. not (assert_must_go o s e)) (λ e. not (assert_must_go s s e)) (fewer_must_go o s) s.asserts
          (none_pass (assert_must_go o s) s.asserts
          (nothing_first is_assert_first (filter (assert_must_go o s) s.asserts)
          (none_of _ (first_by is_assert_first (filter (assert_must_go o s) s.asserts)) both.0)));
      sources = none_found (spt_must_go s) s.sources (none_of _ (find (spt_must_go s) s.sources) both.1);
    }

pub settling_clears : (o : State) (change : State × List Message) (w : ℕ) → IsClear (settled o change w).0
unfolding settled clear
settling_clears o change w =
    let after : State = (clear o change.0).0 in
    let told : State = (upstream o after w).0 in
    clear_goes_on after (settled o change w).0
    (agrees_then (touching []) after told _ (frame_upstream o after w) (frame_packets told _))
    (cleared_is_clear o after (nothing_to_clear o (settle_registers change.0)))

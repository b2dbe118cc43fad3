-- A Register-Stop of all sources of a group changes those registers of the group that aren't in Prune.
use Rattle.std.{proofs.Common.{◌≡◌, ℕ, ◌+◌, Bool, true, false, ◌==◌, ◌&&◌, ◌||◌, not, cond, [], ◌∷◌, map, length, nat_lt, eqb-true, refl, ap, sym, subst, ◌∙◌}, specs.{List.{filter, list_any}, Prelude.if◌then◌else◌}}
use Rattle.pim_types.{specs.{declared.fact.{Key.Key, RegisterRow.RegisterRow, RegisterState.RegisterState}, Keys.{is_of_group, source_key}}}
use Rattle.pim_wire.{specs.declared.register.RegisterStop.RegisterStop}
use Rattle.pim_ip.{specs.declared.addr.Addr.Addr}
use Rattle.pim_model.{specs.{Registers.{is_meant, register_stop_seen, state_after_stop}, State.State, Step.change, Tables.{Table, delay_in, keys_in, rows_where}, declared.accepted.Accepted.Accepted}}
use Rattle.law_events.{specs.{Events.touched_by_event, Locality.{AgreesBut, touching}, Scopes.reads}, proofs.{EventLaws.change_touches, Touches.registers_agree}}
use Rattle.pim_plan.{specs.Tunnels.{is_stoppable, keys_of_stop, stoppable_keys}}

neither : (b c : Bool) → (b || c) ≡ false → (b ≡ false) × (c ≡ false)
neither true c e = cc
neither false c e = (refl, e)

module _ (g end : ℕ) where
  abbrev Rows : Type 0
  Rows = Table RegisterRow

  abbrev of_group : Rows → Rows
  of_group t = filter (λ e. is_of_group g e.0) t

  abbrev stopping : Rows → Rows
  stopping t = filter (λ e. is_stoppable (e.1).state) t

  abbrev stopped : Key × RegisterRow → Key × RegisterRow
  stopped e = if is_meant g 0 e then (e.0, record { state = state_after_stop end (e.1).state }) else e

  abbrev Unread : Key → Rows → Rows → Type 0
  Unread q t u = rows_where (reads q) t ≡ rows_where (reads q) u

  -- a register that is stopped, which the key doesn't read
  head_unread : (q : Key) (x y : Key × RegisterRow) (t u : Rows) (b : Bool) → reads q x.0 ≡ b → b ≡ false → x.0 ≡ y.0
      → Unread q t u → Unread q (x ∷ t) (y ∷ u)
  unfolding rows_where
  head_unread q x y t u true is unread same rest = cc
  head_unread q x y t u false is unread same rest = rw (is, sym (ap (reads q) same) ∙ is) rest

  head_same : (q : Key) (x : Key × RegisterRow) (t u : Rows) → Unread q t u → Unread q (x ∷ t) (x ∷ u)
  unfolding rows_where
  head_same q x t u rest = ap (λ (v : Rows). cond (reads q x.0) (x ∷ v) v) rest

  stop_step : (q k : Key) (state : RegisterState) (t : Rows) (b : Bool) → is_of_group g k ≡ b
      → list_any (reads q) (keys_in (stopping (cond b ((k, record { state = state }) ∷ of_group t) (of_group t)))) ≡ false
      → (list_any (reads q) (keys_in (stopping (of_group t))) ≡ false → Unread q (map stopped t) t)
      → Unread q (map stopped ((k, record { state = state }) ∷ t)) ((k, record { state = state }) ∷ t)
  unfolding keys_in
  stop_step q k state t false is unread rest =
      rw is (head_same q (k, record { state = state }) (map stopped t) t (rest unread))
  stop_step q k (RegisterState.Prune old) t true is unread rest =
      rw is (head_same q (k, record { state = RegisterState.Prune old }) (map stopped t) t (rest unread))
  stop_step q k RegisterState.Join t true is unread rest =
      let none = neither (reads q k) (list_any (reads q) (keys_in (stopping (of_group t)))) unread in
      rw is (head_unread q (k, record { state = RegisterState.Prune end }) (k, record { state = RegisterState.Join })
      (map stopped t) t (reads q k) refl none.0 refl (rest none.1))
  stop_step q k (RegisterState.JoinPending old) t true is unread rest =
      let none = neither (reads q k) (list_any (reads q) (keys_in (stopping (of_group t)))) unread in
      rw is (head_unread q (k, record { state = RegisterState.Prune end }) (k, record { state = RegisterState.JoinPending old })
      (map stopped t) t (reads q k) refl none.0 refl (rest none.1))

  stop_unread : (q : Key) (t : Rows) → list_any (reads q) (keys_in (stopping (of_group t))) ≡ false → Unread q (map stopped t) t
  stop_unread q [] unread = refl
  stop_unread q (e ∷ t) unread =
      stop_step q e.0 (e.1).state t (is_of_group g e.0) refl unread (stop_unread q t)

-- such a Register-Stop touches no other key than theirs
some_agree : (s : State) (w g : ℕ) → AgreesBut (touching (stoppable_keys s g)) s (register_stop_seen s w g 0)
unfolding register_stop_seen touching stoppable_keys
some_agree s w g =
    registers_agree (touching (stoppable_keys s g)) s _
    (λ q unread. stop_unread g (s.present + delay_in 25000 85000 w) q s.registers unread)

module _ (s : State) (w : ℕ) (from : Addr) (r : RegisterStop) where
  abbrev after : State
  after = register_stop_seen s w r.group.bits r.source.bits

  named_agrees : AgreesBut (touching (source_key 0 r.group.bits r.source.bits ∷ [])) s after
  unfolding touched_by_event change
  named_agrees =
      change_touches s w (Accepted.RegisterStop from r) (source_key 0 r.group.bits r.source.bits ∷ []) refl

  pub stop_agrees : AgreesBut (touching (keys_of_stop s r.group.bits r.source.bits)) s after
  stop_agrees = go (r.source.bits == 0) (not (nat_lt 256 (length (stoppable_keys s r.group.bits)))) refl
    where
      go : (b c : Bool) → (r.source.bits == 0) ≡ b
          → AgreesBut (touching (if b && c then stoppable_keys s r.group.bits
          else source_key 0 r.group.bits r.source.bits ∷ [])) s after
      go true true none =
          subst (λ (n : ℕ). AgreesBut (touching (stoppable_keys s r.group.bits)) s (register_stop_seen s w r.group.bits n))
          (sym (eqb-true r.source.bits 0 none)) (some_agree s w r.group.bits)
      go true false none = named_agrees
      go false c some = named_agrees

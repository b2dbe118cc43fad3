-- Interfaces from a number on go down, and another configuration takes the place of the old one.
use Rattle.std.{proofs.{Common.{◌≡◌, ◌<◌, ◌≤◌, ⊎_elim, inr, ◌+◌, ◌-◌, ◌++◌, ℕ, nat_lt, Bool, true, false, List, map, append_assoc, sym, ap, ◌∙◌, arith, lt-ltb}, lemmas.Bool.{cases_lt, Decides.nat_tests}}, specs.List.{list_all, range_with_len}}
use Rattle.pim_types.{specs.{Keys.iface_in, declared.{config.Config.Config, fact.{InterfaceRow.InterfaceRow, Key.Key}, outcome.Emission.Emission}}}
use Rattle.pim_model.{specs.{State.{State, addressing_of, iface_count, is_up}, Step.{ran, run, state_after}}}
use Rattle.law_states.{specs.{ReloadLaws.AreConfigured, Reloading.{down_event, goodbyes, replaced, sent_by}, Placing.gone_on}, proofs.Removed.{gone_are_down, gone_keeps}}
use Rattle.pim_ifaces.{specs.Interfaces.is_up_key}
use Rattle.pim_reloader.{proofs.{Below.{are_configured, rows_low}, Removing.downs}}

-- ---- what is up is below the number

module _ (s : State) (kept w : ℕ) (configured : AreConfigured s) (few : kept ≤ iface_count s) where
  abbrev gone : State
  gone = (ran s (map (down_event w) (range_with_len kept (iface_count s - kept)))).1

  fit : kept + (iface_count s - kept) ≤ iface_count s
  fit = omega (arith, few)

  low_count : (p : ℕ) → nat_lt p (iface_count s) ≡ true → p < iface_count s
  low_count p e = grind (arith, nat_tests, e)

  clash : (b : Bool) → b ≡ true → b ≡ false → ⊥
  clash b e f = cc (e, f)

  gone_low : (p : ℕ) → is_up gone p ≡ true → p < kept
  gone_low p up =
      ⊎_elim (λ (less : p < kept). less)
      (λ (le : kept ≤ p).
      ⊎_elim
      (λ (less : p < iface_count s).
      absurd (clash (is_up gone p) up
      (gone_are_down w (iface_count s - kept) kept s fit p le (omega (arith, less, few)))))
      (λ (past : iface_count s ≤ p).
      let less : p < iface_count s =
      low_count p (configured p
      (sym (gone_keeps w (iface_count s - kept) kept s fit p (inr (omega (arith, past, few)))) ∙ up)) in
      absurd (omega (arith, less, past)))
      (cases_lt p (iface_count s)))
      (cases_lt p kept)

abbrev Kinds : State → Type 0
Kinds s = list_all (λ (e : Key × InterfaceRow). is_up_key (iface_count s) e.0) s.interfaces ≡ true

pub gone_below : (s t : State) (kept n w : ℕ) → Kinds s → Kinds t → kept ≤ iface_count s → kept ≤ n
    → t ≡ state_after s (downs w kept (iface_count s))
    → list_all (λ (e : Key × InterfaceRow). nat_lt (iface_in e.0) n) t.interfaces ≡ true
unfolding state_after
gone_below s t kept n w before after few within is =
    rows_low n t after
    (λ i up. low i (gone_low s kept w (are_configured s before) few i (ap (λ (x : State). is_up x i) (sym is) ∙ up)))
  where
    low : (i : ℕ) → i < kept → nat_lt i n ≡ true
    low i less = lt-ltb i n (omega (arith, less, within))

-- ---- the parts together

module _ (s m n : State) (kept : ℕ) (c : Config) (w v : ℕ) (left : m ≡ state_after s (downs w kept (iface_count s))) (same : v ≡ w) where
  pub gone_state : n ≡ (replaced m c v).0 → n ≡ (gone_on s kept (iface_count s) c w).0
  unfolding gone_on state_after
  gone_state is = is ∙ (λ j. (replaced (left j) c (same j)).0)

  pub gone_sent : (first said later all : List Emission) → first ≡ sent_by (run s (downs w kept (iface_count s)))
      → said ≡ first ++ goodbyes m (addressing_of c) → later ≡ (replaced m c v).1 → all ≡ said ++ later
      → all ≡ (gone_on s kept (iface_count s) c w).1
  unfolding gone_on state_after run
  gone_sent first said later all goes says is both =
      both ∙ ap (λ (es : List Emission). es ++ later) says
      ∙ (append_assoc first (goodbyes m (addressing_of c)) later
      ∙ ((λ j. goes j ++ (goodbyes m (addressing_of c) ++ is j))
      ∙ (λ j. sent_by (run s (downs w kept (iface_count s))) ++ (goodbyes (left j) (addressing_of c) ++ (replaced (left j) c (same j)).1))))

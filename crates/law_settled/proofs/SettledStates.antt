-- A settled state is lawful, and fine where what is later than the present is late; what is fine so is settled.
use Rattle.std.{proofs.Common.{◌≡◌, ℕ, ◌<◌, nat_lt, Bool, true, sym, subst}, specs.List.AllByRecursion}
use Rattle.pim_types.{specs.declared.{fact.Key.Key, timer.TimerKind.TimerKind}}
use Rattle.pim_model.{specs.State.{State, is_up}}
use Rattle.law_settled.{proofs.{ListLaws.{each_more, each_swapped}, Ends.{Ends, shows}, TimerLaws.shown_after, Parts.{end_of, end_of_each, each_end, ends_of, is_sound, part_of, rows, timed_rows}, LawfulStates.{EndsLate, its_firing, its_order, its_tidiness, lawful_is_fine}, ShownEnds.{rows_run, runs_later, shown_is_later}, FineStates.{Good, IsFine, Runs, good_is_late}}, specs.{Laws.IsAhead, Ready.{IsLawful, IsSettled}}}

pub settled_is_lawful : (s : State) → IsSettled s → IsLawful s
settled_is_lawful s f = record { ordered = f.ordered; firable = f.ahead.firable; tidy = f.tidy }

module _ (s : State) (f : IsSettled s) where
  later : (kind : TimerKind) (k : Key) (x : ℕ) → shows kind (Ends k x) s ≡ true → s.present < x
  later kind k x e = shown_is_later s.present s f.ahead.ends kind k x e

  ends_later : EndsLate (nat_lt s.present) s
  ends_later p =
      each_swapped (λ e end. Runs (nat_lt s.present) (end e.1)) (rows p s) (ends_of p)
      (each_end (λ p end. AllByRecursion (λ e. Runs (nat_lt s.present) (end e.1)) (rows p s))
      (λ kind. rows_run (end_of kind) (is_sound (part_of kind)) s.present (timed_rows kind s) (later kind)) p)

  pub settled_is_fine : IsFine s.present (nat_lt s.present) (is_up s) s
  settled_is_fine = lawful_is_fine s (settled_is_lawful s f) (nat_lt s.present) ends_later

module _ (m : ℕ) (up : ℕ → Bool) (s : State) (f : IsFine m (nat_lt m) up s) where
  its_ends : (kind : TimerKind) (k : Key) (x : ℕ) → shows kind (Ends k x) s ≡ true → m < x
  its_ends kind k x e =
      runs_later (end_of kind) (is_sound (part_of kind)) m (timed_rows kind s)
      (each_more (Good (nat_lt m) up (part_of kind)) (λ e. Runs (nat_lt m) (end_of kind e.1))
      (λ e g. end_of_each kind (λ end. Runs (nat_lt m) (end e.1)) (good_is_late (nat_lt m) up (part_of kind) e g))
      (timed_rows kind s) (f.tables (part_of kind)).each) k x e

  pub its_ahead : IsAhead m s
  its_ahead = record { firable = its_firing m (nat_lt m) up s f; present = f.present; ends = shown_after m s its_ends }

  pub fine_is_settled : IsSettled s
  fine_is_settled = record {
    ordered = its_order m (nat_lt m) up s f;
    tidy = its_tidiness m (nat_lt m) up s f;
    ahead = subst (λ (n : ℕ). IsAhead n s) (sym f.present) its_ahead;
  }

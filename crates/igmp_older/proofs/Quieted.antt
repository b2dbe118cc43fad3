-- Rows that aren't looked at before a timestamp, and time that passes.
use Rattle.std.{proofs.{Common.{◌≡◌, ◌∙◌, ℕ, ◌≤◌, ◌<◌, nat_lt, Bool, true, false, cond, min, List, [], ◌∷◌, filter, filter_map, Option, Some, None, is_some, option_map, refl, sym, ap, subst, arith}, lemmas.Bool.Decides.nat_tests}, specs.{List.cons_option, Map.Calls.RetainsPairs}}
use Rattle.pim_types.{specs.declared.fact.{GroupRecordRow.GroupRecordRow, Key.Key}}
use Rattle.pim_model.{specs.Tables.{Table, put}}
use Rattle.law_settled.{proofs.{ListLaws.{each_filter, each_more}, RowLaws.each_put}}
use Rattle.igmp_older.{specs.{Presence.{entry_after, row_after}, Quiet.AreQuiet, declared.mode.PresentRow.PresentRow}}

pub earlier : (quiet later : ℕ) → quiet ≤ later → (rows : Table PresentRow) → AreQuiet later rows → AreQuiet quiet rows
earlier quiet later low rows f =
    each_more (λ (e : Key × PresentRow). later ≤ (e.1).look) (λ (e : Key × PresentRow). quiet ≤ (e.1).look) (λ e h. omega (arith, low, h)) rows f

pub any_quiet : (rows : Table PresentRow) → AreQuiet 0 rows
any_quiet [] = tt
any_quiet (e ∷ rows) = (omega arith, any_quiet rows)

pub quiet_filter : (quiet : ℕ) (test : Key × PresentRow → Bool) (old new : Table PresentRow) → new ≡ filter test old → AreQuiet quiet old → AreQuiet quiet new
quiet_filter quiet test old new is f =
    subst (AreQuiet quiet) (sym is) (each_filter (λ (e : Key × PresentRow). quiet ≤ (e.1).look) test old f)

pub quiet_put : (quiet : ℕ) (k : Key) (row : PresentRow) (old new : Table PresentRow) → new ≡ put old k row → AreQuiet quiet old
    → AreQuiet (min quiet row.look) new
quiet_put quiet k row old new is f =
    subst (AreQuiet (min quiet row.look)) (sym is)
    (each_put k row (λ (e : Key × PresentRow). min quiet row.look ≤ (e.1).look) (omega arith) old
    (earlier (min quiet row.look) quiet (omega arith) old f))

-- before its time no row is looked at
pub quiet_stays : (groups : Table GroupRecordRow) (now quiet : ℕ) → now < quiet → (rows : Table PresentRow) → AreQuiet quiet rows
    → filter_map (entry_after groups now) rows ≡ rows
unfolding row_after
quiet_stays groups now quiet before [] f = refl
quiet_stays groups now quiet before (e ∷ rows) f =
    let low : quiet ≤ (e.1).look = f.0 in
    let later : nat_lt now (e.1).look ≡ true = grind (arith, nat_tests, before, low) in
    rw later (ap (λ (xs : Table PresentRow). e ∷ xs) (quiet_stays groups now quiet before rows f.1))

-- a closure that answers whether a value stays, writes what it becomes, and stays as it was
module _ {F K X : Type 0} (T : F → K → X → Bool → X → F → Type 0) (g : K × X → Option X) (f : F)
    (said : (k : K) (v : X) (b : Bool) (w : X) (f' : F) → T f k v b w f' → (b ≡ is_some (g (k, v))) × (b ≡ true → g (k, v) ≡ Some w) × (f' ≡ f)) where
  abbrev after : K × X → Option (K × X)
  after e = option_map (λ x. (e.0, x)) (g e)

  one : (k : K) (b : Bool) (w : X) (o : Option X) (kept rest more : List (K × X)) → b ≡ is_some o → (b ≡ true → o ≡ Some w)
      → kept ≡ cond b ((k, w) ∷ rest) rest → rest ≡ more → kept ≡ cons_option (option_map (λ x. (k, x)) o) more
  one k true w None kept rest more is so e same = cc
  one k false w None kept rest more is so e same = e ∙ same
  one k true w (Some x) kept rest more is so e same =
      let found : x ≡ w = cc (so refl) in
      e ∙ (ap (λ (xs : List (K × X)). (k, w) ∷ xs) same ∙ ap (λ (y : X). (k, y) ∷ more) (sym found))
  one k false w (Some x) kept rest more is so e same = cc

  pub filter_map_pairs : (es kept : List (K × X)) → RetainsPairs T f es kept → kept ≡ filter_map after es
  filter_map_pairs [] kept r = r
  filter_map_pairs (e ∷ es) kept r =
      let a = said e.0 e.1 r.0 r.1 r.2 r.4 in
      let rest = filter_map_pairs es r.3 (subst (λ u. RetainsPairs T u es r.3) a.2 r.5) in
      one e.0 r.0 r.1 (g e) kept r.3 (filter_map after es) a.0 a.1 r.6 rest

-- A put under the name that a row was evaluated of.
use Rattle.std.{proofs.Common.{◌≡◌, true, List, [], ◌∷◌, ◌++◌}}
use Rattle.pim_ip.{specs.declared.addr.Addr.Addr}
use Rattle.pim_types.{specs.{declared.fact.Key.Key, Keys.source_key}}
use Rattle.pim_model.{specs.{Cache.answers, State.State, Tables.has_row}}
use Rattle.law_events.{specs.Kept.{Cache, refreshed}}
use Rattle.pim_macros.{specs.Rows.{MadeRow, ShowsAnswers}}
use Rattle.pim_mfc.{specs.{Kept.{Kept, with_source_row}, Laws.ShowsRows}, proofs.Shown.put_refreshes}

pub put_named : (s : State) (c : Cache) (names : List Key) (k : Kept) (m : MadeRow) (g src : Addr) → m.group ≡ g
    → m.source ≡ src → has_row s.sources (source_key 0 g.bits src.bits) ≡ true
    → ShowsAnswers m.answers (answers s g.bits src.bits) → ShowsRows k.rows (refreshed names s c)
    → ShowsRows (with_source_row k m).rows (refreshed (names ++ source_key 0 g.bits src.bits ∷ []) s c)
put_named s c names k m g src group source = rw (← group, ← source) (put_refreshes s c names k m)

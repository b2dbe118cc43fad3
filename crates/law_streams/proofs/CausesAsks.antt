-- Rows are asked for as long as they run, in a sense that is open here.
use Rattle.std.{proofs.Common.{◌≡◌, ℕ, nat_lt, Bool, true, false, cond, List, Option, Some, None, subst, ap, ◌==◌, arith, rules}}
use Rattle.pim_ip.{specs.declared.addr.Addr.Addr}
use Rattle.pim_types.{specs.{Keys.{group_in, iface_in, is_on, source_in, star_key}, declared.fact.{DownstreamRow.DownstreamRow, GroupRecordRow.GroupRecordRow, Key.Key, SourceRecordRow.SourceRecordRow}}}
use Rattle.pim_wire.{specs.Values.JoinPrune}
use Rattle.pim_model.{specs.{Downstream.{holdtime_end, is_named, joined_keys, joined_row, keys_taken, prune_pending_due, pruned_keys, pruned_row, row_after, to_me, touched_keys}, State.State, Step.iface_down, Tables.{Table, drop_where, row_at, set_row}}}
use Rattle.law_settled.{proofs.{RecordLaws.EndsSo, ListLaws.by_cond, RowLaws.row_kept, TurnLaws.kept_by_fold, FineTables.{Fine, fine_drop_at, fine_dropped, fine_more, fine_replaced, fine_set_row, good_row}}}
use Rattle.law_streams.{proofs.{Flows.{is_timed, is_timed_row}, Same.{Rows, rows_of}}}

-- at each moment before an end
abbrev pub Before : (ℕ → Type 0) → ℕ → Type 0
Before P end = (now : ℕ) → nat_lt now end ≡ true → P now

-- at each moment before an end; what holds where there is none
abbrev pub UpTo : Type 0 → (ℕ → Type 0) → Option ℕ → Type 0
UpTo never P end = EndsSo never (Before P) end

pub ends_more : (P Q : ℕ → Type 0) (end : Option ℕ) (never never' : Type 0) → (never → never')
    → ((now : ℕ) → P now → Q now) → UpTo never P end → UpTo never' Q end
ends_more P Q end never never' none more f = grind arith

-- at each time before a timestamp, or at all times where there is none
abbrev pub Throughout : (ℕ → Type 0) → Option ℕ → Type 0
Throughout P end = UpTo ((now : ℕ) → P now) P end

-- A i g src now: (S,G) is asked for on the interface, beyond now
module _ (A : ℕ → ℕ → ℕ → ℕ → Type 0) where
  -- a source, or without one all of them
  abbrev ForSource : (ℕ → Type 0) → Option Addr → Type 0
  ForSource P None = (src : ℕ) → P src
  ForSource P (Some src) = P src.bits

  abbrev pub KeyAsked : Key → ℕ → Type 0
  KeyAsked k now = ForSource (λ src. A (iface_in k) (group_in k) src now) k.source

  -- a row of (*,G) or (S,G)
  abbrev pub JoinAsked : Key × DownstreamRow → Type 0
  JoinAsked e = (e.0).rpt ≡ false → Throughout (KeyAsked e.0) (e.1).expiry

  abbrev pub GroupAsked : Key × GroupRecordRow → Type 0
  GroupAsked e = UpTo (Unit {0}) (λ now. (src : ℕ) → A (iface_in e.0) (group_in e.0) src now) (e.1).end

  -- a source without an end is excluded, while the group timer runs
  abbrev pub SourceAsked : Table GroupRecordRow → Key × SourceRecordRow → Type 0
  SourceAsked groups e =
      UpTo (is_timed groups (iface_in e.0) (group_in e.0) ≡ true)
      (λ now. A (iface_in e.0) (group_in e.0) (source_in e.0) now) (e.1).end

  pub record RowsAsked (r : Rows) : Type 0 where
    pub joins : Fine JoinAsked r.downstream
    pub groups : Fine GroupAsked r.groups
    pub sources : Fine (SourceAsked r.groups) r.sources

  abbrev pub IsAsked : State → Type 0
  IsAsked s = RowsAsked (rows_of s)

  -- ---- a Join/Prune to the router

  abbrev RowAsked : Key → Option DownstreamRow → Type 0
  RowAsked k None = Unit {0}
  RowAsked k (Some r) = Throughout (KeyAsked k) r.expiry

  of_row : (k : Key) (o : Option DownstreamRow) (r : DownstreamRow) → RowAsked k o → o ≡ Some r → RowAsked k (Some r)
  of_row k o r f e = subst (RowAsked k) e f

  found_asked : (k : Key) (t : Table DownstreamRow) → Fine JoinAsked t → k.rpt ≡ false → (o : Option DownstreamRow)
      → row_at t k ≡ o → RowAsked k o
  found_asked k t f e o there = grind (arith, good_row)

  joined_asked : (k : Key) (end : Option ℕ) (n : ℕ) (o : Option DownstreamRow) → Throughout (KeyAsked k) end
      → RowAsked k o → RowAsked k (joined_row end n o)
  joined_asked k end n o new old = grind arith

  pruned_asked : (k : Key) (pending : Option ℕ) (o : Option DownstreamRow) → RowAsked k o
      → RowAsked k (pruned_row pending o)
  pruned_asked k pending o old = grind arith

  if_joined : (k : Key) (b : Bool) (x y : Option DownstreamRow) → (b ≡ true → RowAsked k x) → RowAsked k y
      → RowAsked k (cond b x y)
  if_joined k b x y f g = grind arith

  if_source : (k : Key) (b : Bool) (x y : Option DownstreamRow) → b ≡ false → RowAsked k y → RowAsked k (cond b x y)
  if_source k b x y e f = grind arith

  module _ (s : State) (f : IsAsked s) (i : ℕ) (m : JoinPrune)
      (new : (k : Key) → is_named (joined_keys s i m) k ≡ true → k.rpt ≡ false
      → Throughout (KeyAsked k) (holdtime_end s m.holdtime)) where
    after : Key → Option DownstreamRow
    after k = row_after s i m.holdtime (joined_keys s i m) (pruned_keys i m) k

    after_asked : (k : Key) → k.rpt ≡ false → RowAsked k (after k)
    unfolding after row_after
    after_asked k e = grind (arith, found_asked, if_joined, joined_asked, if_source, by_cond, pruned_asked)

    pub to_me_asked : IsAsked (to_me s i m)
    unfolding to_me keys_taken after
    to_me_asked = record {
      joins = kept_by_fold (λ t k. set_row t k (after k)) (Fine JoinAsked)
          (λ t k. fine_set_row JoinAsked t k (after k) (λ r e not_rpt. of_row k (after k) r (after_asked k not_rpt) e))
          (touched_keys s i (joined_keys s i m) (pruned_keys i m)) s.downstream f.joins;
      groups = f.groups;
      sources = f.sources;
    }

  -- ---- the ends of a row

  pub pending_asked : (s : State) (k : Key) (r : DownstreamRow) → row_at s.downstream k ≡ Some r → IsAsked s
      → IsAsked (prune_pending_due s k r).0
  unfolding prune_pending_due
  pending_asked s k r there f =
      by_cond (λ (p : State × List _). IsAsked p.0) k.rpt _ _ (record {
        joins = fine_replaced JoinAsked (Some (record r { pending = None })) k
            (λ old q e g not_rpt. of_row k _ q (good_row JoinAsked s.downstream k r f.joins there not_rpt) e)
            s.downstream f.joins;
        groups = f.groups;
        sources = f.sources;
      }) (record { joins = fine_drop_at JoinAsked s.downstream k f.joins; groups = f.groups; sources = f.sources })

-- ---- another sense, in which more has a cause

module _ (A B : ℕ → ℕ → ℕ → ℕ → Type 0) where
  -- on an interface
  abbrev pub MoreOn : ℕ → Type 0
  MoreOn i = (g src now : ℕ) → A i g src now → B i g src now

  key_more : (k : Key) (now : ℕ) → MoreOn (iface_in k) → KeyAsked A k now → KeyAsked B k now
  key_more k now more f = grind arith

  pub join_more : (e : Key × DownstreamRow) → MoreOn (iface_in e.0) → JoinAsked A e → JoinAsked B e
  join_more e more f not_rpt =
      ends_more (KeyAsked A e.0) (KeyAsked B e.0) (e.1).expiry _ _ (λ h now. key_more e.0 now more (h now))
      (λ now. key_more e.0 now more) (f not_rpt)

  pub group_more : (e : Key × GroupRecordRow) → MoreOn (iface_in e.0) → GroupAsked A e → GroupAsked B e
  group_more e more f = grind arith

  pub source_more : (t u : Table GroupRecordRow) (e : Key × SourceRecordRow) → MoreOn (iface_in e.0)
      → is_timed u (iface_in e.0) (group_in e.0) ≡ is_timed t (iface_in e.0) (group_in e.0) → SourceAsked A t e
      → SourceAsked B u e
  source_more t u e more same f = grind arith

  pub rows_more : (r : Rows) → ((i : ℕ) → MoreOn i) → RowsAsked A r → RowsAsked B r
  rows_more r more f = search (rules, fine_more, join_more, group_more, source_more)

  -- an interface goes down
  pub down_more : (s : State) (i : ℕ) → ((j : ℕ) → (j == i) ≡ false → MoreOn j) → IsAsked A s
      → IsAsked B (iface_down s i)
  unfolding iface_down
  down_more s i more f = record {
    joins = fine_dropped (JoinAsked A) (JoinAsked B) (is_on i) (λ e h out. join_more e (more (iface_in e.0) out) h)
        s.downstream f.joins;
    groups = fine_dropped (GroupAsked A) (GroupAsked B) (is_on i) (λ e h out. group_more e (more (iface_in e.0) out) h)
        s.group_records f.groups;
    sources = fine_dropped (SourceAsked A s.group_records) (SourceAsked B (drop_where (is_on i) s.group_records))
        (is_on i)
        (λ e h out. source_more s.group_records (drop_where (is_on i) s.group_records) e (more (iface_in e.0) out)
        (ap is_timed_row (row_kept (is_on i) (star_key (iface_in e.0) (group_in e.0)) out s.group_records)) h)
        s.source_records f.sources;
  }

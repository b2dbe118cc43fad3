-- Where two states agree on a source, nothing of it differs; so a source beside the touched keys isn't named.
use Rattle.std.{proofs.Common.{◌≡◌, ◌==◌, ℕ, Bool, true, false, cond, ◌&&◌, ◌||◌, [], ◌∷◌, map, Option, Some, is_none, is_some, refl, sym, ap, ◌∙◌, eq-eqb, arith}, specs.{Cmp.Derive.both_true, Option.option_map_or}}
use Rattle.pim_ip.{specs.declared.addr.Addr.Addr}
use Rattle.pim_types.{specs.{declared.fact.{AssertMetric.AssertMetric, AssertRow.AssertRow, DownstreamRow.DownstreamRow, Key.Key, RegisterRow.RegisterRow, SourceRow.SourceRow}, Keys.{group_in, names_source, rpt_key, same_key, source_key, star_key}}, proofs.Keys.same_key_same}
use Rattle.pim_model.{specs.{Receivers.{is_exclude, local_receiver_include}, Reach.{alike_where, agrees_for_source, names_star}, Rows.{same_assert, same_downstream, same_group_record, same_metric, same_register, same_rows, same_source, same_source_record}, Sets.is_winner, State.State, Tables.{Table, rows_where}, Unicast.{route, rp_of, rp_route}}}
use Rattle.law_settled.{proofs.ListLaws.filter_within}
use Rattle.law_events.{specs.{Locality.AgreesOn, Scopes.{reads, scope}, Named.is_source_named}, proofs.{SharedMacros.{route_local, rp_of_local, rp_route_local}, SameRows.{IsOfCut, of_asserts, of_downstream, of_registers, of_source_records, of_sources}, SourceMacros.{ReadsSource, cut_kept, cut_kind, cut_register, cut_source, local_include_local}, StarMacros.{cut_assert, is_exclude_local}, UntoldKeys.same_by_scope, Reached.alike_is_unnamed, NamedSameRows.alike_at, Sights.{bool_itself, options_same, paths_same}, Unreached.{Alike, Around, at_source, at_star, at_tree}}}

-- ---- rows like themselves

module _ {R : Type 0} (same : R → R → Bool) (itself : (r : R) → same r r ≡ true) where
  rows_itself : (t : Table R) → same_rows same t t ≡ true
  unfolding same_rows
  rows_itself [] = refl
  rows_itself (x ∷ xs) = both_true (both_true (same_key_same x.0) (itself x.1)) (rows_itself xs)

  pub rows_equal : (t u : Table R) → t ≡ u → same_rows same t u ≡ true
  rows_equal t u e = ap (same_rows same t) (sym e) ∙ rows_itself t

metric_itself : (m : AssertMetric) → same_metric m m ≡ true
metric_itself m = grind (arith, bool_itself, eq-eqb)

assert_itself : (r : AssertRow) → same_assert r r ≡ true
assert_itself r = both_true (bool_itself (is_winner (Some r))) (metric_itself r.winner)

downstream_itself : (r : DownstreamRow) → same_downstream r r ≡ true
downstream_itself r = both_true (bool_itself (is_some r.expiry)) (bool_itself (is_some r.pending))

source_itself : (r : SourceRow) → same_source r r ≡ true
source_itself r = both_true (bool_itself (is_some r.keepalive)) (bool_itself r.spt)

pub register_itself : (r : RegisterRow) → same_register r r ≡ true
register_itself r = grind arith

-- ---- rows that fewer keys pass

pub rows_within : {R : Type 0} (p q : Key → Bool) → ((k : Key) → p k ≡ true → q k ≡ true) → (t u : Table R)
    → rows_where q t ≡ rows_where q u → rows_where p t ≡ rows_where p u
unfolding rows_where
rows_within p q more t u e = grind (arith, filter_within)

-- ---- rows that were cut down

module _ {R : Type 0} (cut : R → R) where
  abbrev cut_down : Key × R → Key × R
  cut_down e = (e.0, cut e.1)

  where_step : (p : Key → Bool) (x : Key × R) (xs : Table R) (b : Bool)
      → rows_where p (map cut_down xs) ≡ map cut_down (rows_where p xs)
      → cond b (cut_down x ∷ rows_where p (map cut_down xs)) (rows_where p (map cut_down xs))
      ≡ map cut_down (cond b (x ∷ rows_where p xs) (rows_where p xs))
  where_step p x xs b ih = grind arith

  where_cut : (p : Key → Bool) (t : Table R) → rows_where p (map cut_down t) ≡ map cut_down (rows_where p t)
  unfolding rows_where
  where_cut p [] = refl
  where_cut p (x ∷ xs) = where_step p x xs (p x.0) (where_cut p xs)

  cut_within : (p q : Key → Bool) → ((k : Key) → p k ≡ true → q k ≡ true) → (t u : Table R)
      → map cut_down (rows_where q t) ≡ map cut_down (rows_where q u)
      → map cut_down (rows_where p t) ≡ map cut_down (rows_where p u)
  unfolding rows_where
  cut_within p q more t u e = grind (arith, filter_within, where_cut)

  module _ (same : R → R → Bool) (is : IsOfCut same cut) where
    cut_alike : (t u : Table R) → map cut_down t ≡ map cut_down u → same_rows same t u ≡ true
    unfolding same_rows
    cut_alike [] [] e = refl
    cut_alike [] (y ∷ ys) e = cc
    cut_alike (x ∷ xs) [] e = cc
    cut_alike (x ∷ xs) (y ∷ ys) e =
        let heads : cut_down x ≡ cut_down y = cc in
        let rest : map cut_down xs ≡ map cut_down ys = cc in
        both_true
        (both_true (ap (same_key x.0) (sym (ap (λ (z : Key × R). z.0) heads)) ∙ same_key_same x.0)
        (is.back x.1 y.1 (ap (λ (z : Key × R). z.1) heads)))
        (cut_alike xs ys rest)

    -- rows are alike where they are the same once they are cut down
    rows_alike : (p q : Key → Bool) → ((k : Key) → p k ≡ true → q k ≡ true) → (t u : Table R)
        → map cut_down (rows_where q t) ≡ map cut_down (rows_where q u)
        → same_rows same (rows_where p t) (rows_where p u) ≡ true
    rows_alike p q more t u e = cut_alike (rows_where p t) (rows_where p u) (cut_within p q more t u e)

-- the rows of (*,G), and those of a source, are the same
pub record SameStarRows (g : ℕ) (s t : State) : Type 0 where
  pub group_records : rows_where (names_star g) s.group_records ≡ rows_where (names_star g) t.group_records
  pub downstream : rows_where (names_star g) s.downstream ≡ rows_where (names_star g) t.downstream
  pub asserts : rows_where (names_star g) s.asserts ≡ rows_where (names_star g) t.asserts

pub record SameSourceRows (g src : ℕ) (s t : State) : Type 0 where
  pub source_records : rows_where (names_source g src) s.source_records
      ≡ rows_where (names_source g src) t.source_records
  pub downstream : rows_where (names_source g src) s.downstream ≡ rows_where (names_source g src) t.downstream
  pub asserts : rows_where (names_source g src) s.asserts ≡ rows_where (names_source g src) t.asserts
  pub sources : rows_where (names_source g src) s.sources ≡ rows_where (names_source g src) t.sources
  pub registers : rows_where (names_source g src) s.registers ≡ rows_where (names_source g src) t.registers

-- the rows that count for a source are the same, but for when timers expire
record AlikeRows (g src : ℕ) (s t : State) : Type 0 where
  source_records : alike_where same_source_record (names_source g src) s.source_records t.source_records ≡ true
  star_downstream : alike_where same_downstream (names_star g) s.downstream t.downstream ≡ true
  star_asserts : alike_where same_assert (names_star g) s.asserts t.asserts ≡ true
  downstream : alike_where same_downstream (names_source g src) s.downstream t.downstream ≡ true
  asserts : alike_where same_assert (names_source g src) s.asserts t.asserts ≡ true
  sources : alike_where same_source (names_source g src) s.sources t.sources ≡ true
  registers : alike_where same_register (names_source g src) s.registers t.registers ≡ true

-- where the rows are alike and the routes the same, nothing differs
alike_with_rows : (g src : ℕ) (s t : State) → AlikeRows g src s t
    → alike_where same_group_record (names_star g) s.group_records t.group_records ≡ true
    → route s src ≡ route t src → rp_of s g ≡ rp_of t g → rp_route s g ≡ rp_route t g → agrees_for_source g src s t ≡ true
unfolding agrees_for_source
alike_with_rows g src s t rows groups path rp rp_path = grind (arith, paths_same, options_same)

pub same_with_rows : (g src : ℕ) (s t : State) → SameStarRows g s t → SameSourceRows g src s t
    → route s src ≡ route t src → rp_of s g ≡ rp_of t g → rp_route s g ≡ rp_route t g → agrees_for_source g src s t ≡ true
same_with_rows g src s t star rows path rp rp_path =
    grind (arith, alike_with_rows, rows_equal, bool_itself, downstream_itself, assert_itself, source_itself, register_itself)

-- ---- where they agree on the key of the source

star_reads : (g src : ℕ) (k : Key) (a : Bool) (o : Option Addr) → (a && is_none o) ≡ true
    → (a && ((option_map_or (λ x. x.bits) o 0 == 0) || (option_map_or (λ x. x.bits) o 0 == src))) ≡ true
star_reads g src k a o e = grind arith

source_reads : (a b c z : Bool) → (a && b && c) ≡ true → (a && (z || c)) ≡ true
source_reads a b c z e = grind arith

star_read : (g src : ℕ) (k : Key) → names_star g k ≡ true → reads (source_key 0 g src) k ≡ true
unfolding reads
star_read g src k e = star_reads g src k (group_in k == g) k.source e

source_read : (g src : ℕ) (k : Key) → names_source g src k ≡ true → reads (source_key 0 g src) k ≡ true
unfolding reads names_source
source_read g src k e = grind (arith, source_reads)

module _ (g src : ℕ) (s t : State) (agree : AgreesOn (source_key 0 g src) s t) where
  agreed_rows : AlikeRows g src s t
  unfolding scope
  agreed_rows =
      let k : Key = source_key 0 g src in
      record {
        source_records = rows_alike cut_source same_source_record of_source_records (names_source g src) (reads k) (source_read g src)
            s.source_records t.source_records (ap (λ (u : State). u.source_records) agree);
        star_downstream = rows_alike cut_kind same_downstream of_downstream (names_star g) (reads k) (star_read g src)
            s.downstream t.downstream (ap (λ (u : State). u.downstream) agree);
        star_asserts = rows_alike cut_assert same_assert of_asserts (names_star g) (reads k) (star_read g src)
            s.asserts t.asserts (ap (λ (u : State). u.asserts) agree);
        downstream = rows_alike cut_kind same_downstream of_downstream (names_source g src) (reads k) (source_read g src)
            s.downstream t.downstream (ap (λ (u : State). u.downstream) agree);
        asserts = rows_alike cut_assert same_assert of_asserts (names_source g src) (reads k) (source_read g src)
            s.asserts t.asserts (ap (λ (u : State). u.asserts) agree);
        sources = rows_alike cut_kept same_source of_sources (names_source g src) (reads k) (source_read g src)
            s.sources t.sources (ap (λ (u : State). u.sources) agree);
        registers = rows_alike cut_register same_register of_registers (names_source g src) (reads k) (source_read g src)
            s.registers t.registers (ap (λ (u : State). u.registers) agree);
      }

  agreed_around : Around s t
  unfolding scope
  agreed_around = grind arith

  own_rows : ReadsSource (reads (source_key 0 g src)) g src
  own_rows = grind (arith, star_read, at_star, source_read, at_source, at_tree)

  agreed_alike : Alike g src s t
  agreed_alike =
      let k : Key = source_key 0 g src in
      let rows : AlikeRows g src s t = agreed_rows in
      record {
        record_at = λ i. alike_at same_source_record (source_key i g src) (names_source g src) (at_source g src i)
            s.source_records t.source_records rows.source_records;
        source_down = λ i. alike_at same_downstream (source_key i g src) (names_source g src) (at_source g src i)
            s.downstream t.downstream rows.downstream;
        tree_down = λ i. alike_at same_downstream (rpt_key i g src) (names_source g src) (at_tree g src i) s.downstream
            t.downstream rows.downstream;
        source_assert = λ i. alike_at same_assert (source_key i g src) (names_source g src) (at_source g src i)
            s.asserts t.asserts rows.asserts;
        fact = alike_at same_source (source_key 0 g src) (names_source g src) (at_source g src 0) s.sources t.sources
            rows.sources;
        register = alike_at same_register (source_key 0 g src) (names_source g src) (at_source g src 0) s.registers
            t.registers rows.registers;
        star_down = λ i. alike_at same_downstream (star_key i g) (names_star g) (at_star g src i) s.downstream
            t.downstream rows.star_downstream;
        star_assert = λ i. alike_at same_assert (star_key i g) (names_star g) (at_star g src i) s.asserts t.asserts
            rows.star_asserts;
        excluding = same_by_scope k (λ u. is_exclude u g) (λ u. is_exclude_local (reads k) u g own_rows.stars) s t agree;
        included = same_by_scope k (λ u. local_receiver_include u g src)
            (λ u. local_include_local (reads k) u g src own_rows) s t agree;
        path = same_by_scope k (λ u. route u src) (λ u. route_local (reads k) u src) s t agree;
        rp = same_by_scope k (λ u. rp_of u g) (λ u. rp_of_local (reads k) u g) s t agree;
        rp_path = same_by_scope k (λ u. rp_route u g) (λ u. rp_route_local (reads k) u g) s t agree;
      }

  pub agreed_is_unnamed : is_source_named g src s t ≡ false
  agreed_is_unnamed = alike_is_unnamed g src s t agreed_around agreed_alike

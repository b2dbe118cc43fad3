-- A source without a fact isn't wanted.
use Rattle.std.{proofs.{Common.{◌≡◌, ◌&&◌, ℕ, Bool, true, false, List, ◌++◌, None, Option, option_map, is_some, refl, sym, ap, ◌∙◌, eq-eqb, arith}, lemmas.{Bool.{both_ways, false_from_ne_true, or_parts}, List.Folds.list_any-append}}, specs.{List.list_any, Option.option_map_or}}
use Rattle.pim_types.{specs.{declared.fact.{Key.Key, RegisterRow.RegisterRow, SourceRow.SourceRow}, Keys.{names_source, same_key, source_key}}, proofs.Keys.equal_keys}
use Rattle.pim_model.{specs.{Desires.{is_immediate_empty, join_desired}, Receivers.{local_receiver_include, local_receiver_include_among}, Sets.{immediate_olist, is_empty, is_kept_alive, is_register_join, joins, pim_include, tunnel}, State.State, Tables.{Table, has_row, keys_in, row_at}, Upstream.fact_keys}}
use Rattle.law_settled.{proofs.{ListLaws.any_more, RowLaws.has_row_any, TableLaws.{any_of_map, none_passes}}}

module _ (g src : ℕ) where
  abbrev pub names : Key → Bool
  names k = names_source g src k

  -- a row of the source is one of its facts
  row_names : {R : Type 0} (t : Table R) (i : ℕ) → has_row t (source_key i g src) ≡ true
      → list_any names (keys_in t) ≡ true
  unfolding keys_in names_source
  row_names t i there =
      any_of_map names (λ e. e.0) t
      ∙ any_more (λ e. same_key (source_key i g src) e.0) (λ e. names e.0)
      (λ e same. ap names (sym (equal_keys (source_key i g src) e.0 same))
      ∙ rw (eq-eqb g g refl, eq-eqb src src refl) refl) t
      (sym (has_row_any (source_key i g src) t) ∙ there)

  record IsAbsent (ks : List Key) : Type 0 where
    absent : list_any names ks ≡ false

  first : (xs ys : List Key) → IsAbsent (xs ++ ys) → IsAbsent xs
  first xs ys f = grind (arith, or_parts, list_any-append)

  second : (xs ys : List Key) → IsAbsent (xs ++ ys) → IsAbsent ys
  second xs ys f = grind (arith, or_parts, list_any-append)

  no_row : {R : Type 0} (o : Option R) → is_some o ≡ false → o ≡ None
  no_row o e = grind arith

  gone : {R : Type 0} (t : Table R) (i : ℕ) → IsAbsent (keys_in t) → row_at t (source_key i g src) ≡ None
  unfolding has_row
  gone t i f =
      no_row (row_at t (source_key i g src))
      (false_from_ne_true (has_row t (source_key i g src))
      (λ there. both_ways (list_any names (keys_in t)) f.absent (row_names t i there)))

  module _ (s : State) (none : list_any names (fact_keys s) ≡ false) where
    no_register : row_at s.registers (source_key 0 g src) ≡ None
    unfolding fact_keys
    no_register = gone s.registers 0 (second _ _ (record { absent = none }))

    no_source : row_at s.sources (source_key 0 g src) ≡ None
    unfolding fact_keys
    no_source = gone s.sources 0 (second _ _ (first _ _ (record { absent = none })))

    no_join : (i : ℕ) → row_at s.downstream (source_key i g src) ≡ None
    unfolding fact_keys
    no_join i = grind (arith, gone, second, first)

    no_member : (i : ℕ) → row_at s.source_records (source_key i g src) ≡ None
    unfolding fact_keys
    no_member i = grind (arith, gone, second, first)

    nowhere : (a b c : Bool) → ((a && (b && false)) && c) ≡ false
    nowhere a b c = grind arith

    not_listed : (i : ℕ) → immediate_olist s g src i ≡ false
    unfolding immediate_olist joins has_row pim_include local_receiver_include local_receiver_include_among
    not_listed i = rw (no_join i, no_member i) (nowhere _ _ _)

    no_tunnel : tunnel s g src ≡ false
    unfolding tunnel
    no_tunnel = ap (λ o. is_register_join (option_map (λ (r : RegisterRow). r.state) o)) no_register

    not_alive : is_kept_alive s g src ≡ false
    unfolding is_kept_alive
    not_alive = ap (λ o. option_map_or (λ (r : SourceRow). is_some r.keepalive) o false) no_source

    nothing_wanted : is_immediate_empty s g src ≡ true
    unfolding is_immediate_empty is_empty
    nothing_wanted = grind (arith, false_from_ne_true, none_passes, both_ways, not_listed, no_tunnel)

    pub absent_unwanted : join_desired s g src ≡ false
    unfolding join_desired
    absent_unwanted = rw (nothing_wanted, not_alive) refl

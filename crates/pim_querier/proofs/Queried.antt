-- The queries that a record asks for.
use Rattle.std.{proofs.{Common.{◌≡◌, ℕ, ◌+◌, ◌-◌, ◌==◌, Bool, true, false, List, [], ◌∷◌, ◌++◌, length, Option, Some, None, refl, sym, ap, ◌∙◌, append-nil, arith}, lemmas.Bool.Decides.nat_tests}, specs.{List.filter, Prelude.fold}}
use Rattle.pim_filters.{specs.Asking.{asked_in_order, source_queries}}
use Rattle.pim_ip.{specs.declared.addr.Addr.Addr}
use Rattle.pim_state.{specs.Turns.{Taking, saying}}
use Rattle.pim_types.{specs.{declared.fact.{SendingRow.SendingRow, SourceRepeatRow.SourceRepeatRow}, Keys.{source_key, star_key}}}
use Rattle.pim_model.{specs.{Messages.Message, Querier.{each_in_turn, exceeds, last_member_query_interval, lower_group, lower_sources, next_sending, query_asked, query_end, query_group, query_sources, robustness, send_sources, source_end, sources_sent}, Records.Asked, State.State, Tables.{is_empty_list, put, set_row}}}
use Rattle.pim_querier.{specs.Changes.{sending_put, sendings_put}, proofs.{Parts.{is_some, not_empty}, Starting.said_twice}}
use Rattle.igmp_wire.{specs.Written.bits_of}

module _ (i g : ℕ) where
  -- ---- the group

  abbrev repeated : State → ℕ → ℕ → State
  repeated w next left = record w { group_repeats = put w.group_repeats (star_key i g) (record { next = next; left = left }) }

  pub group_queried : (s w1 w2 : State) (end next left : ℕ) → end ≡ query_end s i
      → next ≡ s.present + last_member_query_interval s → left ≡ robustness s i - 1 → w1 ≡ lower_group s i g end
      → w2 ≡ repeated w1 next left → w2 ≡ (query_group s i g).0
  unfolding query_group lower_group
  group_queried s w1 w2 end next left ends nexts lefts lowers puts =
      puts ∙ ap (λ (w : State). repeated w next left) (lowers ∙ ap (lower_group s i g) ends)
      ∙ (λ j. repeated (lower_group s i g (query_end s i)) (nexts j) (lefts j))

  -- ---- its sources

  sendings_in_table : (row : SendingRow) (sources : List Addr) (s : State)
      → sendings_put i g row s sources
      ≡ record s { sendings = fold (λ t src. put t (source_key i g src) row) s.sendings (bits_of sources) }
  unfolding sendings_put sending_put
  sendings_in_table row [] s = refl
  sendings_in_table row (a ∷ sources) s = sendings_in_table row sources (sending_put i g row s a)

  abbrev running : State → ℕ → List ℕ → List ℕ
  running s end asked = filter (λ src. exceeds end (source_end s i g src)) asked

  abbrev counted : State → ℕ → ℕ → List ℕ → State
  counted s end left sources =
      let row : SendingRow = record { left = left } in
      let lower : State = record (lower_sources s i g sources end) {
        sendings = fold (λ t src. put t (source_key i g src) row) s.sendings sources;
      } in lower

  some_queried : (s : State) (asked : List ℕ) → is_empty_list (running s (query_end s i) asked) ≡ false
      → query_sources s i g asked ≡ send_sources (counted s (query_end s i) (robustness s i) (running s (query_end s i) asked)) i g
  unfolding query_sources
  some_queried s asked some =
      let lower : State = counted s (query_end s i) (robustness s i) (running s (query_end s i) asked) in
      ap (λ (b : Bool). let after : State × List Message =
      elim b [ true ↦ (s, []) | false ↦ send_sources lower i g ] in after) some

  pub sources_queried : (s w1 w2 : State) (asked : List ℕ) (sources : List Addr) (end left : ℕ) → end ≡ query_end s i
      → left ≡ robustness s i → bits_of sources ≡ running s end asked → (length sources == 0) ≡ false
      → w1 ≡ lower_sources s i g (bits_of sources) end → w2 ≡ sendings_put i g (record { left = left }) w1 sources
      → send_sources w2 i g ≡ query_sources s i g asked
  unfolding lower_sources
  sources_queried s w1 w2 asked sources end left ends lefts are some lowers puts =
      let now : List ℕ = running s (query_end s i) asked in
      let those : bits_of sources ≡ now = are ∙ ap (λ (n : ℕ). running s n asked) ends in
      let there : is_empty_list now ≡ false =
      ap (λ (xs : List ℕ). is_empty_list xs) (sym those) ∙ not_empty sources (is_some sources some) in
      ap (λ (w : State). send_sources w i g)
      (puts ∙ ap (λ (w : State). sendings_put i g (record { left = left }) w sources) lowers
      ∙ sendings_in_table (record { left = left }) sources (lower_sources s i g (bits_of sources) end)
      ∙ (λ j. counted s (ends j) (lefts j) (those j)))
      ∙ sym (some_queried s asked there)

  pub none_queried : (s : State) (asked : List ℕ) (sources : List Addr) (end : ℕ) → end ≡ query_end s i
      → bits_of sources ≡ running s end asked → (length sources == 0) ≡ true
      → query_sources s i g asked ≡ (s, [])
  unfolding query_sources
  none_queried s asked sources end ends are none =
      let those : bits_of sources ≡ running s (query_end s i) asked = are ∙ ap (λ (n : ℕ). running s n asked) ends in
      let empty : is_empty_list (running s (query_end s i) asked) ≡ true =
      ap (λ (xs : List ℕ). is_empty_list xs) (sym those) ∙ no_bits sources none in
      let lower : State = counted s (query_end s i) (robustness s i) (running s (query_end s i) asked) in
      ap (λ (b : Bool). let after : State × List Message =
      elim b [ true ↦ (s, []) | false ↦ send_sources lower i g ] in after) empty
    where
      no_bits : (xs : List Addr) → (length xs == 0) ≡ true → is_empty_list (bits_of xs) ≡ true
      no_bits [] e = refl
      no_bits (x ∷ xs) e = absurd (grind (arith, nat_tests, e))

  pub sources_repeated : (s w1 w2 : State) (next : Option SourceRepeatRow) → w1 ≡ (sources_sent s i g).0
      → next ≡ next_sending w1 i g
      → w2 ≡ record w1 { source_repeats = set_row w1.source_repeats (star_key i g) next }
      → w2 ≡ (send_sources s i g).0
  unfolding send_sources sources_sent
  sources_repeated s w1 w2 next sent is changed =
      let with_next : State → Option SourceRepeatRow → State = λ w o.
      record w { source_repeats = set_row w.source_repeats (star_key i g) o } in
      changed ∙ ap (with_next w1) is ∙ ap (λ (w : State). with_next w (next_sending w i g)) sent

  -- ---- one after the other

  abbrev asks : State → List Asked → State × List Message
  asks s asked = each_in_turn (query_asked i g) s asked

  module _ (s : State) (t : Taking) (w : State) (u : Taking) (asked : List Asked) (named : Option (List ℕ)) where
    abbrev Named : Type 0
    Named = (w ≡ (asks s (source_queries named)).0) × (u ≡ saying t (asks s (source_queries named)).1)

    state_both : (o : Option (List ℕ))
        → (query_group (asks s (source_queries o)).0 i g).0 ≡ (asks s (asked_in_order o true)).0
    unfolding each_in_turn query_asked
    state_both None = refl
    state_both (Some sources) = refl

    said_both : (o : Option (List ℕ))
        → saying (saying t (asks s (source_queries o)).1) (query_group (asks s (source_queries o)).0 i g).1
        ≡ saying t (asks s (asked_in_order o true)).1
    unfolding each_in_turn query_asked
    said_both None =
        said_twice t [] (query_group s i g).1
        ∙ ap (λ (ms : List Message). saying t ms) (sym (append-nil (query_group s i g).1))
    said_both (Some sources) =
        let first : State × List Message = query_sources s i g sources in
        let then_group : List Message = (query_group first.0 i g).1 in
        said_twice t (first.1 ++ []) then_group
        ∙ ap (λ (ms : List Message). saying t (ms ++ then_group)) (append-nil first.1)
        ∙ ap (λ (ms : List Message). saying t (first.1 ++ ms)) (sym (append-nil then_group))

    module _ (are : asked ≡ asked_in_order named true) (done : Named) where
      all : asks s (asked_in_order named true) ≡ asks s asked
      all = ap (asks s) (sym are)

      pub state_of_both : (w' : State) → w' ≡ (query_group w i g).0 → w' ≡ (asks s asked).0
      state_of_both w' state =
          state ∙ ap (λ (x : State). (query_group x i g).0) done.0 ∙ state_both named
          ∙ ap (λ (p : State × List Message). p.0) all

      pub said_of_both : (u' : Taking) → u' ≡ saying u (query_group w i g).1 → u' ≡ saying t (asks s asked).1
      said_of_both u' said =
          said ∙ (λ j. saying (done.1 j) (query_group (done.0 j) i g).1) ∙ said_both named
          ∙ ap (λ (p : State × List Message). saying t p.1) all

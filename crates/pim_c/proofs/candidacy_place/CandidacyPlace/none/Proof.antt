-- `none` makes a place with nothing behind it. Assumes `Logic`.
use Rattle.std.{proofs.{Common.{◌≡◌, List, [], ◌∷◌, ◌++◌, refl, sym, subst}, alloc.Calls.{Goes-blank, handle_tells}, raw_atomic.Walks.{proved_at, leaves}}, specs.Prelude.None}
use mir.{Val.Val}
use base.{Logic.{SProp, ent, emp, id⊢}}
use prog.{Wp.WpFn}
use types.{Kit.{‵, raw, ◌⊛◌, ◌$◌, ◌∵◌, !, qed, by, move, keep, drop, split, fsplit, fjoin, suffices, use0}, Run.{lit, no_more, and_then, returns, enter}, ByLocal.{alloc_all, pass_all, free_all, look_at, get, sets}, Part.agg}
use contract.{Monad.{fact, fact_i}, Running.tables}
use denote.{RattleType.owns, RawPtr.{null_ptr, ptr_val}, Signature.{types_at, plain}, Steps.nothing, Triple.{Entry.alive, Walked.{Stays, stay_dropped, walk_of}}}
use Rattle.pim_c.{proofs.{PointedWords.pair, PlaceWords.{Z, handle, null_good, place_in}, candidacy_place.CandidacyPlace.none.Statement.statement}, specs.contracts.candidacy_place.CandidacyPlace.{the_heap, the_row as Row, none.{ended, clauses, Key.name as #self}}}
use Rattle.pim_c.proofs.candidacy_place.CandidacyPlace.none.Code as code

pub none_spec : {M : Type 1} → statement M
none_spec 𝓤 𝓛 𝓜 𝓡 wired =
    let H = 𝓛.H in let 𝓣 = tables 𝓤 H 𝓜 𝓡 𝓡.env in let c = clauses 𝓛 𝓜.mem 𝓡.returns in let fn = code.function in
    let stays : Stays ended.signature.params ended.kept = (stay_dropped (plain (λ _. Z)) ended.kept.0, tt) in
    proved_at 𝓛 ended stays c 𝓜 𝓡 (Goes-blank 𝓛 0 (plain (λ _. Z)) ended.kept.0 (λ κs x f. tt), tt) #self fn (code.unfolded 𝓤 H 𝓜 𝓡 wired) (λ z are.
    let a = z.0.3.0 in let Post : Val → SProp 𝓤 = (walk_of 𝓛 ended stays c).post z in let Run : List Val → SProp 𝓤 = λ ws. WpFn 𝓤 H 𝓣.C 𝓣.Λ fn ws Post in
    let made : Row.Denot = record { at = null_ptr; alloc = a; inside = None } in
    qed 𝓛 ((raw (alive 𝓛 ended.signature z.0.0 z.0.1) ⊛ ‵ (owns (types_at ended.signature.params z.0.0) z.0.3 z.0.4)) ∷ raw ((c z.0.0 z.0.3).requires z.1) ∷ []) ∵
    move ! (1 ∷ []) $ drop ! $ split ! $ move ! (1 ∷ []) $ fsplit ! $ handle_tells handle ! a z.0.4.0 (λ h is fits.
    suffices ! (Run (h ∷ [])) (subst (λ (us : List Val). ent 𝓤 (Run (h ∷ [])) (Run us)) (sym (λ i. is i ++ [])) (id⊢ 𝓤 (Run (h ∷ [])))) $
    enter ! 𝓣.C 𝓣.Λ fn (h ∷ []) Post $ alloc_all ! (λ l. pass_all ! refl (fits, tt) $
    sets ! (agg ! (and_then ! (lit ! tt) (and_then ! (get ! refl) (no_more !)))) refl (null_good h fits) $
    returns ! (look_at ! 0 refl) $ free_all ! refl $
    nothing ! $ place_in ! made.at made.alloc (the_heap made) h $
    use0 𝓛 (raw (fact 𝓤 (made.inside ≡ None))) (fact_i 𝓤 (made.inside ≡ None) (emp 𝓤) refl) $ nothing ! $ nothing ! $ fjoin ! $
    keep ! (4 ∷ 0 ∷ 2 ∷ 1 ∷ []) $ by ! (leaves 𝓛 ended stays c z (pair (ptr_val null_ptr) h) made (tt, tt) (tt, tt)))))

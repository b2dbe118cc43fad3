-- `of` keeps the pointer and what stands behind it. Assumes `Logic`.
use Rattle.std.{proofs.{Common.{◌≡◌, List, [], ◌∷◌, ◌++◌, refl, sym, subst}, alloc.Calls.Goes-blank, raw_atomic.Walks.{proved_at, leaves}}, specs.{Prelude.Some, contracts.impls.GlobalAllocator.TheImpl.ghosts}}
use mir.{Val.{Val, vptr}}
use base.{Logic.{SProp, ent, emp, id⊢}}
use prog.{Wp.WpFn}
use types.{Kit.{‵, raw, ◌⊛◌, ◌$◌, ◌∵◌, !, qed, by, move, keep, drop, split, fsplit, fjoin, suffices, use0, use1}, Run.{stop, fld, of_opd, no_more, and_then, returns, enter}, ByLocal.{alloc_all, pass_all, free_all, look_at, get, get_in, sets}, Part.{agg, sub, whole}}
use contract.{Monad.{fact, fact_i}, Running.tables}
use denote.{RattleType.{RattleType, owns}, RawPtr.block_ptr, Signature.{types_at, plain}, Steps.nothing, Triple.{Entry.alive, Walked.{Stays, stay_dropped, walk_of}}}
use Rattle.pim_c.{proofs.{PointedWords.{pair, pair_good, pointed_out, Row as From}, PlaceWords.{Z, laws, place_in}, candidacy_place.CandidacyPlace.of.Statement.statement}, specs.contracts.candidacy_place.CandidacyPlace.{the_heap, the_row as Row, of.{ended, clauses, Key.name as #self}}}
use Rattle.pim_candidate.{specs.contracts.candidacy.Candidacy.the_row as candidacy}
use Rattle.pim_c.proofs.candidacy_place.CandidacyPlace.of.Code as code

pub of_spec : {M : Type 1} → statement M
of_spec 𝓤 𝓛 𝓜 𝓡 wired =
    let H = 𝓛.H in let 𝓣 = tables 𝓤 H 𝓜 𝓡 𝓡.env in let c = clauses 𝓛 𝓜.mem 𝓡.returns in let fn = code.function in
    let P : RattleType = From candidacy Z laws ghosts in
    let stays : Stays ended.signature.params ended.kept = (stay_dropped (plain (λ _. P)) ended.kept.0, tt) in
    proved_at 𝓛 ended stays c 𝓜 𝓡 (Goes-blank 𝓛 0 (plain (λ _. P)) ended.kept.0 (λ κs x f. tt), tt) #self fn (code.unfolded 𝓤 H 𝓜 𝓡 wired) (λ z are.
    let v = z.0.3.0 in let a = v.alloc in let Post : Val → SProp 𝓤 = (walk_of 𝓛 ended stays c).post z in let Run : List Val → SProp 𝓤 = λ ws. WpFn 𝓤 H 𝓣.C 𝓣.Λ fn ws Post in
    qed 𝓛 ((raw (alive 𝓛 ended.signature z.0.0 z.0.1) ⊛ ‵ (owns (types_at ended.signature.params z.0.0) z.0.3 z.0.4)) ∷ raw ((c z.0.0 z.0.3).requires z.1) ∷ []) ∵
    move ! (1 ∷ []) $ drop ! $ split ! $ move ! (1 ∷ []) $ fsplit ! $ pointed_out candidacy Z laws ghosts ! v z.0.4.0 (λ b o h e is fits.
    let w : Val = pair (vptr b o) h in let typed = pair_good candidacy Z laws ghosts b o h fits in
    let made : Row.Denot = record { at = block_ptr b o; alloc = a; inside = Some v.value } in
    suffices ! (Run (w ∷ [])) (subst (λ (us : List Val). ent 𝓤 (Run (w ∷ [])) (Run us)) (sym (λ i. is i ++ [])) (id⊢ 𝓤 (Run (w ∷ [])))) $
    enter ! 𝓣.C 𝓣.Λ fn (w ∷ []) Post $ alloc_all ! (λ l. pass_all ! refl (typed, tt) $
    -- let Pointed { at, alloc } = pointed;
    sets ! (of_opd ! (get_in ! (fld ! refl (stop !)) (sub ! 0 refl (whole !)))) refl (tt, tt) $
    sets ! (of_opd ! (get_in ! (fld ! refl (stop !)) (sub ! 1 refl (whole !)))) refl fits $
    -- CandidacyPlace { at: at as *mut u8, alloc }
    sets ! (of_opd ! (get ! refl)) refl (tt, tt) $
    sets ! (agg ! (and_then ! (get ! refl) (and_then ! (get ! refl) (no_more !)))) refl typed $
    returns ! (look_at ! 0 refl) $ free_all ! refl $
    use1 𝓛 (‵ (the_heap made)) (id⊢ 𝓤 _) $ place_in ! made.at made.alloc (the_heap made) h $
    use0 𝓛 (raw (fact 𝓤 (made.inside ≡ Some v.value))) (fact_i 𝓤 (made.inside ≡ Some v.value) (emp 𝓤) refl) $ nothing ! $ nothing ! $ fjoin ! $
    keep ! (4 ∷ 0 ∷ 2 ∷ 1 ∷ []) $ by ! (leaves 𝓛 ended stays c z w made (tt, tt) (tt, tt)))))

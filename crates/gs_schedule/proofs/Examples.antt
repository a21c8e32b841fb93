-- Lines and what they spell, computed.
use Rattle.std.proofs.Common.{◌≡◌, inl, inr, lit≤, lit<, negsuc, pos, [], ◌∷◌, codes, refl, Some, Ok, Err, arith}
use Rattle.std.specs.Fmt.{digits}
use Rattle.gs_input.specs.declared.event.Event.TheVariants.{KeyDown, Move}
use Rattle.gs_schedule.specs.declared.output.Output.TheVariants.{Sent, Ended, Input, Total, Done}
use Rattle.gs_schedule.specs.declared.step.Step.TheVariants as step
use Rattle.gs_schedule.specs.Output.{output_line}
use Rattle.gs_schedule.specs.Lines.{lines_of, next_line}
use Rattle.gs_schedule.specs.Step.{Spells}

reentry : output_line (Sent 1 5 5 5 1) ≡ codes "sent 1 5 5 5 1\n"
unfolding digits
reentry = refl

bad_range : output_line (Ended 1 (negsuc 0) (pos 9)) ≡ codes "ended 1 -1 9\n"
unfolding digits
bad_range = refl

key : output_line (Input 1 2 (KeyDown (pos 65) 0)) ≡ codes "input 1 2 keydown 65 0\n"
unfolding digits
key = refl

sums : output_line (Total 1 600 600 0 600 2000) ≡ codes "total 1 600 600 0 600 2000\n"
unfolding digits
sums = refl

last : output_line Done ≡ codes "ok\n"
last = refl

lines : lines_of (codes "cap\n\n# cap\nsend 1") ≡ codes "cap" ∷ [] ∷ codes "# cap" ∷ codes "send 1" ∷ []
unfolding lines_of
lines = refl

first_number : next_line 0 (codes "cap" ∷ []) ≡ Ok (Some (record { number = 1; bytes = codes "cap" }))
first_number = refl

last_number : next_line 4294967294 (codes "cap" ∷ []) ≡ Err 4294967295
last_number = refl

comment : Spells (codes "# cap") step.Blank
comment = refl

one_frame : Spells (codes "session 1024 0 0") (step.Session 1024 0 0 1)
unfolding digits
one_frame = inr (refl, ((lit< tt, (lit< tt, (lit< tt, tt))), refl))

four_frames : Spells (codes "session 1392 20 2 4") (step.Session 1392 20 2 4)
unfolding digits
four_frames = inl ((lit< tt, (lit< tt, (lit< tt, (lit< tt, tt)))), refl)

range : Spells (codes "videos 1 1 9") (step.Videos 1 1 9)
unfolding digits
range = (((lit< tt, (lit< tt, (lit< tt, tt))), refl), lit≤ tt)

longest : Spells (codes "time 60000") (step.Time 60000)
unfolding digits
longest = (((lit< tt, tt), refl), lit≤ tt)

behind_the_name : Spells (codes "move 8 -10 3") (step.Input 8 (Move (negsuc 9) (pos 3)))
unfolding digits
behind_the_name = (record { known = tt; types = (record { sfits = omega arith }, record { sfits = omega arith }); button = tt }, lit< tt, refl)

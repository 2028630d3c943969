use Rattle.counted_styles.proofs.text.TextStyles.styles.Goals as goal

pub returns : goal.returns
returns c = λ items h. h.styled

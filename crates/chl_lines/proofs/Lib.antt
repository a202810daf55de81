mod AnswerParts
mod HitParts
mod PartLines

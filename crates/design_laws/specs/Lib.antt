-- What a design is where its text has one model.
pub mod ShortDesigns

pub mod OneText
